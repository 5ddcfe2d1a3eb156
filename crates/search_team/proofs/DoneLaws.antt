-- What workers gave back fits what they began with: owners and rows of passes, seats and plans.
use Rattle.std.proofs.Common.{◌≡◌, ℕ, zero, suc, ◌-◌, ◌<◌, ◌∙◌, List, [], ◌∷◌, length, map, ap, refl, sym, subst, arith}
use Rattle.std.specs.Prelude.{slice_index_or}
use Rattle.std.proofs.lemmas.List.{length-map}
use Rattle.plant_model.specs.declared.parts.Parts.{Parts}
use Rattle.search_board.specs.Seats.{SeatView}
use Rattle.slot_box.specs.Tasks.{TaskParts}
use Rattle.task_deck.specs.declared.ends.Door.{Door}
use Rattle.task_deck.specs.declared.ends.DoorPass.{DoorPass}
use Rattle.task_deck.specs.declared.ends.Owner.{Owner}
use Rattle.task_deck.specs.Decks.{deck_behind}
use Rattle.team_decks.specs.Dealing.{AreDealt, AreOwners}
use Rattle.team_decks.specs.Rows.{AreRows, IsRow, other_at}
use Rattle.branch_worker.specs.declared.site.Done.{Done}
use Rattle.branch_worker.specs.declared.site.Me.{Me}
use Rattle.branch_worker.specs.Work.{AreSamePasses, IsSameOwner}
use Rattle.search_team.specs.declared.apart.Apart.{Apart}
use Rattle.search_team.specs.inside.Apart.{AreDone, HaveWorked}

-- ---- each worker's own

-- at each place
abbrev AreSameOwners : List Owner → List Owner → Type 0
AreSameOwners old new = (i : ℕ) (owner : Owner) → i < length old → IsSameOwner (slice_index_or old i owner) (slice_index_or new i owner)

abbrev AreSameRows : List (List DoorPass) → List (List DoorPass) → Type 0
AreSameRows old new = (i : ℕ) (row : List DoorPass) → i < length old → AreSamePasses (slice_index_or old i row) (slice_index_or new i row)

module _ (parts : Parts) (n : ℕ) where
  pub as-many : (mes : List Me) (dones : List Done) → AreDone parts n mes dones → length dones ≡ length mes
  as-many [] [] are = refl
  as-many [] (done ∷ dones) are = absurd are
  as-many (me ∷ mes) [] are = absurd are
  as-many (me ∷ mes) (done ∷ dones) are = ap suc (as-many mes dones are.1)

  same-owners : (mes : List Me) (dones : List Done) → AreDone parts n mes dones → AreSameOwners (map (λ (me : Me). me.owner) mes) (map (λ (done : Done). done.owner) dones)
  same-owners [] dones are i owner inside = absurd (omega (arith, inside))
  same-owners (me ∷ mes) [] are i owner inside = absurd are
  same-owners (me ∷ mes) (done ∷ dones) are zero owner inside = are.0.owner
  same-owners (me ∷ mes) (done ∷ dones) are (suc i) owner inside = same-owners mes dones are.1 i owner (omega (arith, inside))

  same-rows : (mes : List Me) (dones : List Done) → AreDone parts n mes dones → AreSameRows (map (λ (me : Me). me.passes) mes) (map (λ (done : Done). done.passes) dones)
  same-rows [] dones are i row inside = absurd (omega (arith, inside))
  same-rows (me ∷ mes) [] are i row inside = absurd are
  same-rows (me ∷ mes) (done ∷ dones) are zero row inside = are.0.passes
  same-rows (me ∷ mes) (done ∷ dones) are (suc i) row inside = same-rows mes dones are.1 i row (omega (arith, inside))

-- ---- the decks are still dealt out so

owners-still : (doors : List Door) (count : ℕ) (old new : List Owner) → AreOwners doors count old → length new ≡ length old → AreSameOwners old new → AreOwners doors count new
owners-still doors count old new is many same = record {
  many = many ∙ is.many;
  deck = λ i owner door inside. (let here : i < length old = omega (arith, inside, many) in (same i owner here).deck ∙ is.deck i owner door here);
  passes = λ i owner inside. (let here : i < length old = omega (arith, inside, many) in (same i owner here).passes ∙ is.passes i owner here);
}

row-still : (doors : List Door) (count number : ℕ) (old new : List DoorPass) → IsRow doors count number old → AreSamePasses old new → IsRow doors count number new
row-still doors count number old new is same = record {
  many = same.many ∙ is.many;
  deck = λ i door pass inside. (let here : i < length old = omega (arith, inside, same.many) in
      (same.each i pass here).deck (deck_behind (slice_index_or doors (other_at number i) door)) (is.deck i door pass here));
  place = λ i pass inside. (let here : i < length old = omega (arith, inside, same.many) in (same.each i pass here).number ∙ is.place i pass here);
}

rows-still : (doors : List Door) (count : ℕ → ℕ) (old new : List (List DoorPass)) → AreRows doors count old → length new ≡ length old → AreSameRows old new → AreRows doors count new
rows-still doors count old new are many same number row inside =
    let here : number < length old = omega (arith, inside, many) in
    row-still doors (count number) number (slice_index_or old number row) (slice_index_or new number row) (are number row here) (same number row here)

module _ (parts : Parts) (n workers : ℕ) (seat : SeatView) (doors : List Door) (owners : List Owner) (rows : List (List DoorPass)) (root : TaskParts) (apart : Apart)
    (dealt : AreDealt workers doors owners rows) (have : HaveWorked parts n seat owners rows root apart) where
  many-owners : length apart.owners ≡ length owners
  many-owners =
      let all = as-many parts n have.mes have.dones have.done in
      let its = ap (length {A = Owner}) have.is.owners in
      let begun = ap (length {A = Owner}) have.seated.owners_are in
      omega (arith, all, its, begun, length-map have.dones (λ (done : Done). done.owner), length-map have.mes (λ (me : Me). me.owner))

  many-rows : length apart.rows ≡ length rows
  many-rows =
      let all = as-many parts n have.mes have.dones have.done in
      let its = ap (length {A = List DoorPass}) have.is.rows in
      let begun = ap (length {A = List DoorPass}) have.seated.rows_are in
      omega (arith, all, its, begun, length-map have.dones (λ (done : Done). done.passes), length-map have.mes (λ (me : Me). me.passes))

  pub row-each-door : length apart.rows ≡ length doors
  row-each-door = many-rows ∙ dealt.each_row ∙ sym dealt.each_door

  pub owners-after : AreOwners doors (length apart.rows - 1) apart.owners
  owners-after =
      owners-still doors (length apart.rows - 1) owners apart.owners
      (subst (λ (k : ℕ). AreOwners doors (k - 1) owners) (sym (many-rows ∙ dealt.each_row)) dealt.each_owner) many-owners
      (subst (λ (l : List Owner). AreSameOwners l apart.owners) have.seated.owners_are
      (subst (AreSameOwners (map (λ (me : Me). me.owner) have.mes)) (sym have.is.owners) (same-owners parts n have.mes have.dones have.done)))

  pub rows-after : AreRows doors (λ worker. length doors) apart.rows
  rows-after =
      rows-still doors (λ worker. length doors) rows apart.rows (subst (λ (k : ℕ). AreRows doors (λ worker. k) rows) (sym dealt.each_door) dealt.dealt) many-rows
      (subst (λ (l : List (List DoorPass)). AreSameRows l apart.rows) have.seated.rows_are
      (subst (AreSameRows (map (λ (me : Me). me.passes) have.mes)) (sym have.is.rows) (same-rows parts n have.mes have.dones have.done)))
