-- What becomes of a box whose fixed operations begin no form that is sought.
use Rattle.std.proofs.Common.{◌≡◌, ℕ, ◌-◌, ◌<◌, ◌^◌, inl, inr, ℤ, Option, None, List, take, sym, ◌∙◌, subst, refl, arith}
use Rattle.std.proofs.lemmas.Bool.{cases_lt}
use Rattle.std.proofs.lemmas.List.{take-take}
use Rattle.overlap_graph.specs.Independence.{independence_of}
use Rattle.plant_model.specs.declared.parts.Parts.{Parts}
use Rattle.slot_automaton.specs.Normal.{IsNormal}
use Rattle.slot_box.specs.declared.node.Leaf.TheVariants.{Dead}
use Rattle.slot_box.specs.declared.slot.Slot.{Slot}
use Rattle.slot_box.specs.Boxes.{fixed_prefix}
use Rattle.slot_box.specs.Tasks.{TaskParts}
use Rattle.slot_forms.specs.Cases.{plain}
use Rattle.leaf_value.specs.Blocked.{IsBlocked}
use Rattle.search_node.specs.declared.looked.Examined.TheVariants.{Closed}
use Rattle.search_node.specs.Looks.{IsLook}

-- of two refused prefixes none is shorter
not-shorter : (parts : Parts) (n : ℕ) (box : List Slot) (j k : ℕ) → IsBlocked (plain parts n) box j → IsBlocked (plain parts n) box k → j < k → ⊥
not-shorter parts n box j k short long less =
    let masks = independence_of parts in
    let fixed = fixed_prefix box in
    let whole : j - 0 ≡ j = omega arith in
    let same : take j (take k fixed) ≡ take j (take j fixed) = take-take j k fixed (omega (arith, less)) ∙ sym (take-take j j fixed (omega arith)) in
    let normal = subst (IsNormal masks) same (long.first.shorter j (omega (arith, less))) in
    short.first.refused (subst (λ (m : ℕ). IsNormal masks (take m (take j fixed))) (sym whole) normal)

pub blocked-once : (parts : Parts) (n : ℕ) (box : List Slot) (j k : ℕ) → IsBlocked (plain parts n) box j → IsBlocked (plain parts n) box k → j ≡ k
blocked-once parts n box j k first second =
    elim (cases_lt j k) [
      | inl less ↦ absurd (not-shorter parts n box j k first second less)
      | inr most ↦ elim (cases_lt k j) [ inl less ↦ absurd (not-shorter parts n box k j second first less) | inr least ↦ omega (arith, most, least) ]
    ]

pub dead-look : (parts : Parts) (n : ℕ) (task : TaskParts) (seen : Option ℤ) (at : ℕ) → IsBlocked (plain parts n) task.box at → at < 2 ^ 32 →
    IsLook parts n task seen (record { what = Closed (Dead at) None; found = None })
dead-look parts n task seen at blocked fits = record {
  dead = λ k. (
    (λ said. let same : at ≡ k = cc in subst (IsBlocked (plain parts n) task.box) same blocked),
    (λ other. let same = blocked-once parts n task.box at k blocked other in cc),
  );
  examined = record {
    leaf_for = record { lawful = blocked; in_range = fits; valued = refl; at_one = tt; bounded = tt };
    closed = λ is_open. is_open;
    beaten = inr tt;
  };
  plan = tt;
  plan_of_point = λ margin same. cc;
}
