-- The nets of the star points: each is one of the nets, and wide.
use Rattle.std.proofs.Common.{◌≡◌, ℕ, ◌<◌, true, length}
use Rattle.std.specs.Prelude.{slice_index}
use Rattle.std.specs.List.{range_with_len}
use Rattle.std.proofs.lemmas.List.Elements.{All-filter, All-get_or, filter_passes}
use Rattle.book_design.specs.Values.{DesignValue}
use Rattle.net_model.specs.Numbered.{net_at}
use Rattle.net_model.specs.Star.{is_wide, star_nets, star_net}
use Rattle.net_model.proofs.Ranges.{numbers_below}

pub star_net_wide : (design : DesignValue) (s : ℕ) → s < length (star_nets design) → (slice_index (star_nets design) s < length design.nets) × (is_wide design (star_net design s) ≡ true)
star_net_wide design s inside =
    let all = range_with_len 0 (length design.nets) in (
      All-get_or (λ n. n < length design.nets) (star_nets design) s 0 inside (All-filter (λ n. is_wide design (net_at design n)) (λ n. n < length design.nets) all (numbers_below (length design.nets))),
      All-get_or (λ n. is_wide design (net_at design n) ≡ true) (star_nets design) s 0 inside (filter_passes (λ n. is_wide design (net_at design n)) all),
    )
