-- The part of a name up to and with its last slash.
use Rattle.std.proofs.Common.{◌≡◌, ◌≢◌, ℕ, ◌+◌, ◌-◌, ◌<◌, true, false, List, [], length, take, get_or, refl, ap, ◌∙◌, arith}
use Rattle.std.proofs.lemmas.Bool.Decides.{nat_tests}
use Rattle.std.proofs.lemmas.List.Sums.{suffix_len_is}
use Rattle.std.specs.List.{suffix_len}
use Rattle.proud_top.specs.Beside.{is_no_slash, folder_of}

other_byte : (b : ℕ) → b ≢ 47 → is_no_slash b ≡ true
other_byte b h = grind (arith, nat_tests)

slash_byte : (b : ℕ) → b ≡ 47 → is_no_slash b ≡ false
slash_byte b h = rw h refl

-- where a slash stands and none behind it
pub folder-last : (name : List ℕ) (k : ℕ) → k < length name → get_or name k 0 ≡ 47 → ((i : ℕ) → k < i → i < length name → get_or name i 0 ≢ 47) → folder_of name ≡ take (k + 1) name
folder-last name k there slash behind =
    let tail : suffix_len is_no_slash name ≡ length name - (k + 1) = suffix_len_is is_no_slash name (k + 1) 0 (omega arith)
    (λ i low high. other_byte (get_or name i 0) (behind i (omega arith) high)) (λ _. slash_byte (get_or name (k + 1 - 1) 0) (ap (λ (i : ℕ). get_or name i 0) (let e : k + 1 - 1 ≡ k = omega arith in e) ∙ slash)) in
    let rest : length name - suffix_len is_no_slash name ≡ k + 1 = omega arith in
    ap (λ (n : ℕ). take n name) rest

-- where no slash stands
pub folder-none : (name : List ℕ) → ((i : ℕ) → i < length name → get_or name i 0 ≢ 47) → folder_of name ≡ []
folder-none name none =
    let tail : suffix_len is_no_slash name ≡ length name - 0 = suffix_len_is is_no_slash name 0 0 (omega arith)
    (λ i low high. other_byte (get_or name i 0) (none i high)) (λ h. absurd (omega arith)) in
    let rest : length name - suffix_len is_no_slash name ≡ 0 = omega arith in
    ap (λ (n : ℕ). take n name) rest
