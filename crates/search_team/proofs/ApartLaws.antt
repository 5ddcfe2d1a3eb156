-- What the workers gave back, one more at a time.
use Rattle.std.proofs.Common.{◌≡◌, inl, inr, ℕ, ℤ, ◌-◌, ◌∙◌, List, [], ◌∷◌, ◌++◌, Option, None, Some, length, ap, ap₂, refl, sym, subst, arith}
use Rattle.std.specs.declared.alloc.AllocError.{AllocError}
use Rattle.std.specs.Prelude.{◌⊎◌, All, IfOk, IfSome, Result}
use Rattle.std.proofs.lemmas.List.{append-nil, append_assoc, length_push, map-append}
use Rattle.std.proofs.lemmas.List.Elements.{All-head, All-tail}
use Rattle.std.proofs.lemmas.Result.{IfOk-weaker}
use Rattle.slot_box.specs.Tasks.{TaskParts}
use Rattle.task_deck.specs.declared.ends.DoorPass.{DoorPass}
use Rattle.task_deck.specs.declared.ends.Owner.{Owner}
use Rattle.number_laws.specs.Missing.{greater}
use Rattle.plan_build.specs.Built.{IsPlanned, found_margin}
use Rattle.plant_model.specs.declared.parts.Parts.{Parts}
use Rattle.replay_core.specs.declared.planned.Planned.{Planned}
use Rattle.search_board.specs.Seats.{BoardView, SeatView, joined_seat}
use Rattle.branch_worker.specs.declared.site.Done.{Done}
use Rattle.branch_worker.specs.declared.site.Me.{Me}
use Rattle.branch_worker.specs.Work.{IsDone}
use Rattle.search_team.specs.declared.apart.Apart.{Apart}
use Rattle.search_team.specs.inside.Apart.{AreDone, AreOwed, HaveWorked, IsApart, greatest_found, joined_all}
use Rattle.search_team.specs.inside.Benches.{AreSeatedBy, HaveReturned}
use Rattle.search_team.specs.declared.benches.Bench.{Bench}

joined_all-push : (seat : SeatView) (dones : List Done) (done : Done) → joined_all seat (dones ++ done ∷ []) ≡ joined_seat (joined_all seat dones) done.seat
joined_all-push seat [] done = refl
joined_all-push seat (first ∷ dones) done = joined_all-push (joined_seat seat first.seat) dones done

greatest_found-push : (most : Option ℤ) (dones : List Done) (done : Done) →
    greatest_found most (dones ++ done ∷ []) ≡ greater (greatest_found most dones) (found_margin done.found)
greatest_found-push most [] done = refl
greatest_found-push most (first ∷ dones) done = greatest_found-push (greater most (found_margin first.found)) dones done

pub AreDone-push : (parts : Parts) (n : ℕ) (mes : List Me) (dones : List Done) (me : Me) (done : Done) → AreDone parts n mes dones → IsDone parts n me done →
    AreDone parts n (mes ++ me ∷ []) (dones ++ done ∷ [])
AreDone-push parts n [] [] me done are is = (is, tt)
AreDone-push parts n [] (other ∷ dones) me done are is = absurd are
AreDone-push parts n (first ∷ mes) [] me done are is = absurd are
AreDone-push parts n (first ∷ mes) (other ∷ dones) me done are is = (are.0, AreDone-push parts n mes dones me done are.1 is)

module _ (parts : Parts) (n : ℕ) (before : SeatView) (dones : List Done) (old new : Apart) (done : Done) (is : IsApart parts n before dones old)
    (planned : IfSome done.found (IsPlanned parts n)) (seat : new.seat ≡ joined_seat old.seat done.seat) (owners : new.owners ≡ old.owners ++ done.owner ∷ [])
    (rows : new.rows ≡ old.rows ++ done.passes ∷ []) (notes : new.notes ≡ old.notes ++ done.notes ∷ []) (cuts : new.cuts ≡ old.cuts ++ done.cuts ∷ [])
    (margin : found_margin new.found ≡ greater (found_margin old.found) (found_margin done.found)) (one : (new.found ≡ old.found) ⊎ (new.found ≡ done.found)) where
  pub IsApart-more : IsApart parts n before (dones ++ done ∷ []) new
  IsApart-more = record {
    seat = seat ∙ ap (λ (s : SeatView). joined_seat s done.seat) is.seat ∙ sym (joined_all-push before dones done);
    owners = owners ∙ ap (λ l. l ++ done.owner ∷ []) is.owners ∙ sym (map-append (λ (d : Done). d.owner) dones (done ∷ []));
    rows = rows ∙ ap (λ l. l ++ done.passes ∷ []) is.rows ∙ sym (map-append (λ (d : Done). d.passes) dones (done ∷ []));
    notes = notes ∙ ap (λ l. l ++ done.notes ∷ []) is.notes ∙ sym (map-append (λ (d : Done). d.notes) dones (done ∷ []));
    cuts = cuts ∙ ap (λ l. l ++ done.cuts ∷ []) is.cuts ∙ sym (map-append (λ (d : Done). d.cuts) dones (done ∷ []));
    margin = margin ∙ ap (λ (m : Option ℤ). greater m (found_margin done.found)) is.margin ∙ sym (greatest_found-push None dones done);
    plan = elim one [
      | inl same ↦ subst (λ (p : Option Planned). IfSome p (IsPlanned parts n)) (sym same) is.plan
      | inr its ↦ subst (λ (p : Option Planned). IfSome p (IsPlanned parts n)) (sym its) planned
    ];
  }

-- ---- benches, one after another

push-same : {X : Type 0} (xs ys : List X) (x y : X) → xs ++ x ∷ [] ≡ ys ++ y ∷ [] → (xs ≡ ys) × (x ≡ y)
push-same [] [] x y is = (refl, cc)
push-same {X} [] (b ∷ ys) x y is = absurd (omega (arith, ap (length {A = X}) is, length_push ys y))
push-same {X} (a ∷ xs) [] x y is = absurd (omega (arith, ap (length {A = X}) is, length_push xs x))
push-same (a ∷ xs) (b ∷ ys) x y is =
    let head : a ≡ b = cc in
    let tail : xs ++ x ∷ [] ≡ ys ++ y ∷ [] = cc in
    let rest = push-same xs ys x y tail in
    (ap₂ (λ p q. p ∷ q) head rest.0, rest.1)

-- the last of the benches is the first worker's
pub record IsServed (parts : Parts) (n : ℕ) (mes : List Me) (left : List Bench) (bench : Bench) : Type 0 where
  pub me : Me
  pub rest : List Me
  pub mes_are : mes ≡ me ∷ rest
  pub owed : IfSome bench.done (IsDone parts n me)
  pub others : HaveReturned parts n rest left

pub served : (parts : Parts) (n : ℕ) (mes : List Me) (left : List Bench) (bench : Bench) → HaveReturned parts n mes (left ++ bench ∷ []) →
    IsServed parts n mes left bench
served parts n [] left bench have = absurd (omega (arith, ap (length {A = Bench}) have, length_push left bench))
served parts n (me ∷ mes) left bench (others, last, is, owed, have) =
    let same = push-same left others bench last is in
    record {
      me = me;
      rest = mes;
      mes_are = refl;
      owed = subst (λ (b : Bench). IfSome b.done (IsDone parts n me)) (sym same.1) owed;
      others = subst (HaveReturned parts n mes) (sym same.0) have;
    }

-- where no bench is left, no worker is
pub none-left : (parts : Parts) (n : ℕ) (mes : List Me) → HaveReturned parts n mes [] → mes ≡ []
none-left parts n [] have = refl
none-left parts n (me ∷ mes) (others, last, is, owed, have) = absurd (omega (arith, ap (length {A = Bench}) is, length_push others last))

module _ (board : BoardView) (benches left : List Bench) (bench : Bench) (is : benches ≡ left ++ bench ∷ []) (owed : AreOwed board benches) where
  here : IsServed owed.0 owed.1 owed.2 left bench
  here = served owed.0 owed.1 owed.2 left bench (subst (HaveReturned owed.0 owed.1 owed.2) is owed.3)

  boards : All (λ (me : Me). me.seat.board ≡ board) (here.me ∷ here.rest)
  boards = subst (All (λ (me : Me). me.seat.board ≡ board)) here.mes_are owed.4

  pub owed-rest : AreOwed board left
  owed-rest = (owed.0, owed.1, here.rest, here.others, All-tail (λ (me : Me). me.seat.board ≡ board) here.me here.rest boards)

  pub owed-board : (done : Done) → bench.done ≡ Some done → done.seat.board ≡ board
  owed-board done there =
      let its = subst (λ (d : Option Done). IfSome d (IsDone owed.0 owed.1 here.me)) there here.owed in
      its.work.seat.board ∙ All-head (λ (me : Me). me.seat.board ≡ board) here.me here.rest boards

-- some benches are served, and what lay there is taken apart
abbrev pub AreApart : SeatView → List Bench → List Bench → Apart → Type 0
AreApart before all benches apart =
    (parts : Parts) (n : ℕ) (mes : List Me) → HaveReturned parts n mes all →
    (front : List Me) × (rest : List Me) × (dones : List Done) × (mes ≡ front ++ rest) × HaveReturned parts n rest benches × AreDone parts n front dones
    × IsApart parts n before dones apart

pub AreApart-none : (seat : SeatView) (all : List Bench) (apart : Apart) →
    apart ≡ record { seat = seat; owners = []; rows = []; notes = []; cuts = []; found = None } → AreApart seat all all apart
AreApart-none seat all apart is parts n mes have = (
  [],
  mes,
  [],
  refl,
  have,
  tt,
  subst (IsApart parts n seat []) (sym is) (record { seat = refl; owners = refl; rows = refl; notes = refl; cuts = refl; margin = refl; plan = tt }),
)

-- all are
pub apart-end : (before : SeatView) (all benches : List Bench) (apart : Apart) → benches ≡ [] → AreApart before all benches apart → (parts : Parts) (n : ℕ) (mes : List Me) →
    HaveReturned parts n mes all → (dones : List Done) × AreDone parts n mes dones × IsApart parts n before dones apart
apart-end before all benches apart none so_far parts n mes have =
    let is = so_far parts n mes have in
    let rest = none-left parts n is.1 (subst (HaveReturned parts n is.1) none is.4) in
    (is.2, subst (λ (l : List Me). AreDone parts n l is.2) (sym (is.3 ∙ ap (λ (l : List Me). is.0 ++ l) rest ∙ append-nil is.0)) is.5, is.6)

module _ (before : SeatView) (all benches left : List Bench) (bench : Bench) (done : Done) (old new : Apart) (is : benches ≡ left ++ bench ∷ [])
    (there : bench.done ≡ Some done) (so_far : AreApart before all benches old)
    (add : (parts : Parts) (n : ℕ) (seat : SeatView) (dones : List Done) → IsApart parts n seat dones old → IfSome done.found (IsPlanned parts n) →
    IsApart parts n seat (dones ++ done ∷ []) new) where
  pub AreApart-more : AreApart before all left new
  AreApart-more parts n mes have =
      let old_is = so_far parts n mes have in
      more old_is.0 old_is.1 old_is.2 old_is.3 (subst (HaveReturned parts n old_is.1) is old_is.4) old_is.5 old_is.6
    where
      more : (front rest : List Me) (dones : List Done) → mes ≡ front ++ rest → HaveReturned parts n rest (left ++ bench ∷ []) → AreDone parts n front dones →
          IsApart parts n before dones old →
          (front : List Me) × (rest : List Me) × (dones : List Done) × (mes ≡ front ++ rest) × HaveReturned parts n rest left × AreDone parts n front dones
          × IsApart parts n before dones new
      more front rest dones mes_are returned are apart =
          let one = served parts n rest left bench returned in
          let its = subst (λ (d : Option Done). IfSome d (IsDone parts n one.me)) there one.owed in (
            front ++ one.me ∷ [],
            one.rest,
            dones ++ done ∷ [],
            mes_are ∙ ap (λ (l : List Me). front ++ l) one.mes_are ∙ sym (append_assoc front (one.me ∷ []) one.rest),
            one.others,
            AreDone-push parts n front dones one.me done are its,
            add parts n before dones apart its.work.best.plan,
          )

-- ---- all together

module _ (parts : Parts) (n : ℕ) (seat same after : SeatView) (owners : List Owner) (rows : List (List DoorPass)) (root : TaskParts) (mes : List Me) (benches : List Bench)
    (result : Result Apart AllocError) (is_same : same ≡ seat) (is : AreSeatedBy same owners rows root mes) (left : after ≡ record same { may = same.may - length owners })
    (have : HaveReturned parts n mes benches)
    (apart : IfOk result (λ (apart : Apart). (parts : Parts) (n : ℕ) (mes : List Me) → HaveReturned parts n mes benches →
    (dones : List Done) × AreDone parts n mes dones × IsApart parts n after dones apart)) where
  abbrev Gave : Apart → Type 0
  Gave apart = (parts : Parts) (n : ℕ) (mes : List Me) → HaveReturned parts n mes benches → (dones : List Done) × AreDone parts n mes dones × IsApart parts n after dones apart

  worked : (apart : Apart) → Gave apart → HaveWorked parts n seat owners rows root apart
  worked apart gave =
      let all = gave parts n mes have in
      record {
        mes = mes;
        dones = all.0;
        seated = subst (λ (s : SeatView). AreSeatedBy s owners rows root mes) is_same is;
        done = all.1;
        is = subst (λ (s : SeatView). IsApart parts n s all.0 apart) (left ∙ ap (λ (s : SeatView). record s { may = s.may - length owners }) is_same) all.2;
      }

  pub have-worked : IfOk result (HaveWorked parts n seat owners rows root)
  have-worked = IfOk-weaker result Gave (HaveWorked parts n seat owners rows root) worked apart
