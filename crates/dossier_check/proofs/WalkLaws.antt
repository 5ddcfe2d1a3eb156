-- One pass over entries, and over nodes.
use Rattle.std.proofs.Common.{◌≡◌, ℕ, ◌+◌, ◌<◌, ◌≤◌, ℤ, Option, Some, None, Err, List, [], ◌∷◌, length, drop, get_or, refl, sym, ap, ◌∙◌}
use Rattle.std.proofs.lemmas.List.{drop_more, drop_all}
use Rattle.item_lists.specs.Faults.{first_of}
use Rattle.item_lists.proofs.FaultLaws.{first_of-front, first_of-back}
use Rattle.number_laws.specs.Missing.{greater}
use Rattle.slot_box.specs.declared.node.Node.{Node}
use Rattle.slot_box.specs.declared.term.Term.{Term}
use Rattle.leaf_value.specs.Settings.{Setting}
use Rattle.dossier_check.specs.declared.met.Met.{Met}
use Rattle.dossier_check.specs.declared.entries.Entries.{Entries}
use Rattle.dossier_check.specs.declared.verdict.Reason.{Reason}
use Rattle.dossier_check.specs.declared.verdict.Refusal.{Refusal}
use Rattle.dossier_check.specs.declared.verdict.Refusal.TheVariants.{First, Memory}
use Rattle.dossier_check.specs.Earlier.{Holder, box_of, with_node}
use Rattle.dossier_check.specs.NodeReasons.{term_reasons, terms_reasons, nodes_reasons, greatest_value}
use Rattle.dossier_check.specs.inside.Tests.{Tests}
use Rattle.dossier_check.specs.inside.Walks.{Keeps, Pass, reasons_at, IsMet}

-- the rest of a list begins with the item of the place
from_here : {X : Type 0} (xs : List X) (i : ℕ) (x : X) → i < length xs → x ≡ get_or xs i x → drop i xs ≡ x ∷ drop (i + 1) xs
from_here xs i x within is = drop_more xs i x within ∙ ap (λ y. y ∷ drop (i + 1) xs) (sym is)

-- ---- entries

module _ (setting : Setting) (line i : ℕ) (terms : List Term) (d : Term) (within : i < length terms) where
  pub terms-next : first_of (term_reasons setting line (get_or terms i d)) ≡ None →
      first_of (terms_reasons setting line (drop i terms)) ≡ first_of (terms_reasons setting line (drop (i + 1) terms))
  terms-next none =
      ap (λ rest. first_of (terms_reasons setting line rest)) (drop_more terms i d within)
      ∙ first_of-back (term_reasons setting line (get_or terms i d)) (terms_reasons setting line (drop (i + 1) terms)) none

  pub terms-stop : (found : Reason) → first_of (term_reasons setting line (get_or terms i d)) ≡ Some found →
      first_of (terms_reasons setting line (drop i terms)) ≡ Some found
  terms-stop found first =
      ap (λ rest. first_of (terms_reasons setting line rest)) (drop_more terms i d within)
      ∙ first_of-front (term_reasons setting line (get_or terms i d)) (terms_reasons setting line (drop (i + 1) terms)) found first

-- the entry of the place is refused, where nothing stands against those before it
pub terms-refused : (setting : Setting) (line i : ℕ) (terms : List Term) (d : Term) (refusal : Refusal) → i < length terms →
    first_of (terms_reasons setting line (drop i terms)) ≡ first_of (terms_reasons setting line terms) →
    Tests {X = Unit {0}} (term_reasons setting line (get_or terms i d)) (Err refusal) → Tests {X = Entries} (terms_reasons setting line terms) (Err refusal)
terms-refused setting line i terms d (First found) within rest first = sym rest ∙ terms-stop setting line i terms d within found first
terms-refused setting line i terms d Memory within rest first = tt

-- ---- nodes

-- all that stands against the nodes from an id on
abbrev pub reasons_from : Pass → List Holder → ℕ → List Node → List Reason
reasons_from pass earlier id rest = nodes_reasons pass.setting pass.nodes pass.first pass.root earlier id rest

-- the greatest of a value and theirs
abbrev pub value_from : Pass → Option ℤ → List Holder → ℕ → List Node → Option ℤ
value_from pass best earlier id rest = greatest_value pass.setting pass.root best earlier id rest

-- the nodes before an id were met and nothing stands against them: what is left to test and to value is that of the rest
pub record IsWalked (pass : Pass) (tree : List Node) (id : ℕ) (met : Met) (best : Option ℤ) : Type 0 where
  pub earlier : List Holder
  pub keeps : Keeps pass.root pass.nodes earlier id met
  pub rest : first_of (reasons_from pass earlier id (drop id tree)) ≡ first_of (reasons_from pass [] 0 tree)
  pub values : value_from pass best earlier id (drop id tree) ≡ value_from pass None [] 0 tree

pub walked_none : (pass : Pass) (tree : List Node) (met : Met) → Keeps pass.root pass.nodes [] 0 met → IsWalked pass tree 0 met None
walked_none pass tree met keeps = record { earlier = []; keeps = keeps; rest = refl; values = refl }

pub walked_more : (pass : Pass) (tree : List Node) (id : ℕ) (met kept : Met) (best value : Option ℤ) (node : Node) → id < length tree →
    node ≡ get_or tree id node →
    (w : IsWalked pass tree id met best) → IsMet pass w.earlier id node kept value → IsWalked pass tree (id + 1) kept (greater best value)
walked_more pass tree id met kept best value node within is w m =
    let box = box_of pass.root w.earlier id in
    let here = from_here tree id node within is in
    record {
      earlier = with_node w.earlier box node;
      keeps = m.keeps;
      rest = sym
          (ap (λ rest. first_of (reasons_from pass w.earlier id rest)) here
          ∙ first_of-back (reasons_at pass w.earlier id node) (reasons_from pass (with_node w.earlier box node) (id + 1) (drop (id + 1) tree)) m.clean)
          ∙ w.rest;
      values = ap (λ v. value_from pass (greater best v) (with_node w.earlier box node) (id + 1) (drop (id + 1) tree)) m.gives
          ∙ sym (ap (value_from pass best w.earlier id) here) ∙ w.values;
    }

-- the node of the id has a reason, which is the first
pub walked_stop : (pass : Pass) (tree : List Node) (id : ℕ) (met : Met) (best : Option ℤ) (node : Node) (found : Reason) → id < length tree →
    node ≡ get_or tree id node →
    (w : IsWalked pass tree id met best) → first_of (reasons_at pass w.earlier id node) ≡ Some found → first_of (reasons_from pass [] 0 tree) ≡ Some found
walked_stop pass tree id met best node found within is w first =
    sym w.rest
    ∙ ap (λ rest. first_of (reasons_from pass w.earlier id rest)) (from_here tree id node within is)
    ∙ first_of-front (reasons_at pass w.earlier id node)
    (reasons_from pass (with_node w.earlier (box_of pass.root w.earlier id) node) (id + 1) (drop (id + 1) tree)) found first

-- all nodes were met
pub walked_all : (pass : Pass) (tree : List Node) (id : ℕ) (met : Met) (best : Option ℤ) → length tree ≤ id → IsWalked pass tree id met best →
    (first_of (reasons_from pass [] 0 tree) ≡ None) × (best ≡ value_from pass None [] 0 tree)
walked_all pass tree id met best past w =
    let none = drop_all id tree past in (
      sym w.rest ∙ ap (λ rest. first_of (reasons_from pass w.earlier id rest)) none,
      sym (ap (value_from pass best w.earlier id) none) ∙ w.values,
    )
