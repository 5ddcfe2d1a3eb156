-- What a list holds once a slice of it that was lent for writing is given back.
use Rattle.std.specs.Prelude.{List, ◌++◌, length, take, drop}
use Rattle.std.specs.Borrow.{Lends, MutBor, Fml, Array, RattleType}
use Rattle.item_lists.specs.contracts.items.Items.{the_row}
use Rattle.item_lists.specs.contracts.copies.Copies.{the_row as copies_row}

-- the items last seen behind the slice, which keeps the length that it had
abbrev pub written_back : {X : Type 0} → List X → List X → List X
written_back old written = take (length old) (written ++ drop (length written) old)

-- the list ends as what was last written through the slice
abbrev pub LendsItems : (T : RattleType) → MutBor (List T.Denot) → MutBor (List T.Denot) → Fml
LendsItems T list slice = Lends (the_row T) (Array T 0) list slice (written_back list.now)

-- likewise
abbrev pub LendsCopies : (T : RattleType) → MutBor (List T.Denot) → MutBor (List T.Denot) → Fml
LendsCopies T list slice = Lends (copies_row T) (Array T 0) list slice (written_back list.now)
