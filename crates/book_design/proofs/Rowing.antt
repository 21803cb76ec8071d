-- Subrows as the code keeps them, against those of the records.
use Rattle.std.proofs.Common.{◌≡◌, ℕ, ◌<◌, ap, length}
use Rattle.std.proofs.lemmas.List.{length-map, get_or-map}
use Rattle.book_design.specs.declared.strips.Strip.{Strip as Kept}
use Rattle.book_design.specs.Records.{Records, strips, strip_at}
use Rattle.book_design.specs.Forms.Parts.{outline, outlines, kept_at}

-- a subrow without its upper edge is the subrow but for that edge
pub kept_is : (records : Records) (s : ℕ) → s < length (strips records) → kept_at (outlines records) s ≡ outline (strip_at records s)
kept_is records s there = get_or-map outline (strips records) s _ _ there

pub length-outlines : (records : Records) → length (outlines records) ≡ length (strips records)
length-outlines records = length-map (strips records) outline

pub sites_are : (records : Records) (s : ℕ) → s < length (strips records) → (kept_at (outlines records) s).sites ≡ (strip_at records s).sites
sites_are records s there = ap (λ (k : Kept). k.sites) (kept_is records s there)
