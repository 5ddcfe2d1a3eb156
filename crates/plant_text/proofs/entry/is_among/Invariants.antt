use Rattle.std.proofs.Common.{◌≡◌, drop, map}
use Rattle.std.specs.List.{list_any}
use Rattle.std.specs.Str.{bytes_eq}
use Rattle.plant_text.proofs.entry.is_among.Given as goal

abbrev pub invariant-loop-key : goal.invariant-loop-key
invariant-loop-key l = list_any (bytes_eq l.name) (map (λ key. key.now) (drop l.key-index l.keys)) ≡ list_any (bytes_eq l.name) (map (λ key. key.now) l.keys)
