use Rattle.std.proofs.Common.{◌≡◌, ◌<◌, ℕ, [], map, false, get_or}
use Rattle.std.specs.Str.{bytes_eq}
use Rattle.plant_model.proofs.named.first_named.Given as goal

-- no entry so far has the name
abbrev pub invariant-loop-number : goal.invariant-loop-number
invariant-loop-number g l = (k : ℕ) → k < l.number → bytes_eq (get_or (map g.T.Named.name_of l.entries) k []) l.name ≡ false
