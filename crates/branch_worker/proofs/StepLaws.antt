-- A step of a worker: a look, an examination, and a plan that is offered.
use Rattle.std.proofs.Common.{◌≡◌, ℕ, ◌+◌, ◌<◌, ℤ, Option, Some, None, ap, refl, sym, ◌∙◌, subst, arith, Ok, Err, Result}
use Rattle.std.specs.Prelude.{◌↔◌, ◌⊎◌, IfOk}
use Rattle.number_laws.specs.Missing.{greater, IsAtMost}
use Rattle.number_laws.proofs.MissingLaws.{IsGreaterOf-greater}
use Rattle.plan_build.specs.Built.{found_margin}
use Rattle.slot_box.specs.declared.node.Leaf.{Leaf as LeafKind}
use Rattle.slot_box.specs.declared.node.Leaf.TheVariants.{Dead, Point}
use Rattle.slot_box.specs.declared.split.Split.{Split}
use Rattle.slot_box.specs.Tasks.{TaskParts}
use Rattle.leaf_value.specs.Blocked.{IsBlocked}
use Rattle.search_node.specs.declared.looked.Examined.{Examined}
use Rattle.search_node.specs.declared.looked.Examined.TheVariants.{Closed, Splittable}
use Rattle.search_node.specs.declared.looked.Looked.{Looked}
use Rattle.search_node.specs.Looks.{ClosesBox, IsExamined, IsLook, SaysDead}
use Rattle.branch_worker.specs.declared.site.Site.{Site}
use Rattle.branch_worker.specs.declared.worker.Worker.{Worker}
use Rattle.branch_worker.specs.inside.Working.{BeganAt, HasLooked, IsUndecided, IsWorking, Start, setting_of}
use Rattle.branch_worker.proofs.EventLaws.{HasLooked-looked, HasLooked-offered, IsWorking-looked, IsWorking-offered}

-- the same is less than what more than it is less than
pub less-then : {T E : Type 0} (r : Result T E) (size : T → ℕ) (a b : ℕ) → IfOk r (λ next. size next ≡ a) → a < b → IfOk r (λ next. size next < b)
less-then (Ok next) size a b same less = omega (arith, same, less)
less-then (Err e) size a b same less = tt

-- ---- a look, an examination and an offer

module _ (start : Start) (site : Site) (worker looks offers : Worker) (task : TaskParts) (seen : Option ℤ) (looked : Looked) (began : BeganAt site start)
    (working : IsWorking start worker (Some task) None)
    (look_is : looks ≡ record worker { seat = record worker.seat { seen = seen; looks = worker.seat.looks + 1 } })
    (up : IsAtMost worker.seat.seen seen) (offered : IsAtMost worker.seat.offer seen)
    (offer_is : offers ≡ record looks { seat = record looks.seat { offer = greater looks.seat.offer (found_margin looked.found) }; found = offers.found })
    (margin : found_margin offers.found ≡ greater (found_margin looks.found) (found_margin looked.found))
    (one : (offers.found ≡ looks.found) ⊎ (offers.found ≡ looked.found)) (is_look : IsLook site.plant.now site.n task seen looked) where
  look-here : IsLook start.parts start.slots task seen looked
  look-here = rw (began.parts, began.slots) is_look

  working-looks : IsWorking start looks (Some task) None
  working-looks = subst (λ (w : Worker). IsWorking start w (Some task) None) (sym look_is) (IsWorking-looked start worker (Some task) working seen up offered)

  looked-looks : HasLooked looks
  looked-looks = subst (λ (w : Worker). HasLooked w) (sym look_is) (HasLooked-looked start worker (Some task) working seen up offered)

  pub working-offers : IsWorking start offers (Some task) None
  working-offers = subst (λ (w : Worker). IsWorking start w (Some task) None) (sym offer_is)
      (IsWorking-offered start looks (Some task) working-looks looked.found offers.found margin one look-here.plan)

  pub looked-offers : HasLooked offers
  looked-offers = subst (λ (w : Worker). HasLooked w) (sym offer_is)
      (HasLooked-offered start looks (Some task) working-looks looked.found offers.found margin one look-here.plan looked-looks)

  pub seen-offers : seen ≡ offers.seat.seen
  seen-offers = sym (ap (λ (w : Worker). w.seat.seen) offer_is ∙ ap (λ (w : Worker). w.seat.seen) look_is)

  -- where the box is closed
  module _ (leaf : LeafKind) (value : Option ℤ) (is : looked.what ≡ Closed leaf value) where
    pub closes-here : ClosesBox (setting_of start) task seen leaf value
    closes-here = subst (λ (e : Examined). IsExamined (setting_of start) task seen e) is look-here.examined

    pub dead-here : (at : ℕ) → SaysDead (Closed leaf value) at ↔ IsBlocked (setting_of start).case task.box at
    dead-here at = subst (λ (e : Examined). SaysDead e at ↔ IsBlocked (setting_of start).case task.box at) is (look-here.dead at)

    pub point-here : leaf ≡ Point → IsAtMost value offers.seat.offer
    point-here same = by value refl
      where
        by : (v : Option ℤ) → value ≡ v → IsAtMost v offers.seat.offer
        by None none = tt
        by (Some m) valued =
            let what : looked.what ≡ Closed Point (Some m) = is ∙ ap (λ (l : LeafKind). Closed l value) same ∙ ap (Closed Point) valued in
            let found = look-here.plan_of_point m what in
            let earns : found_margin looked.found ≡ Some m = ap found_margin found.1 ∙ ap Some found.2.earns in
            let most = (IsGreaterOf-greater looks.seat.offer (found_margin looked.found)).second in
            let below : IsAtMost (Some m) (greater looks.seat.offer (found_margin looked.found)) =
            subst (λ (v : Option ℤ). IsAtMost v (greater looks.seat.offer (found_margin looked.found))) earns most in
            subst (IsAtMost (Some m)) (sym (ap (λ (w : Worker). w.seat.offer) offer_is)) below

  -- where it may be divided, after another look
  module _ (value : ℤ) (leaf : LeafKind) (split : Split) (is : looked.what ≡ Splittable value leaf split) where
    pub undecided-here : IsUndecided (setting_of start) task value leaf split
    undecided-here =
        let may = subst (λ (e : Examined). IsExamined (setting_of start) task seen e) is look-here.examined in
        record {
          several = may.several;
          leaf_for = may.leaf_for;
          open_leaf = may.open_leaf;
          lawful = may.lawful;
          even = may.even;
          alive = λ at blocked. (let said : Splittable value leaf split ≡ Closed (Dead at) None = sym is ∙ (look-here.dead at).1 blocked in cc);
        }

  module _ (again : Worker) (best : Option ℤ)
      (again_is : again ≡ record offers { seat = record offers.seat { seen = best; looks = offers.seat.looks + 1 } })
      (more : IsAtMost offers.seat.seen best) (most : IsAtMost offers.seat.offer best) where
    pub working-again : IsWorking start again (Some task) None
    working-again = subst (λ (w : Worker). IsWorking start w (Some task) None) (sym again_is)
        (IsWorking-looked start offers (Some task) working-offers best more most)

    pub looked-again : HasLooked again
    looked-again = subst (λ (w : Worker). HasLooked w) (sym again_is) (HasLooked-looked start offers (Some task) working-offers best more most)

    pub seen-again : best ≡ again.seat.seen
    seen-again = sym (ap (λ (w : Worker). w.seat.seen) again_is)
