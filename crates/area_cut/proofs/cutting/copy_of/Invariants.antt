use Rattle.std.proofs.Common.{◌≡◌, take}
use Rattle.area_cut.proofs.cutting.copy_of.Given as goal

-- the copy holds the regions so far
abbrev pub invariant-loop-region : goal.invariant-loop-region
invariant-loop-region l = l.copy ≡ take l.region-index l.regions
