-- The one note is that of node 0, a leaf. Over any box, here the empty one, it is that of a whole search tree.
use Rattle.std.proofs.Common.{◌≡◌, List, [], ◌∷◌, Option, None, refl, sym, ap, ◌∙◌, subst, ⊎_elim, arith}
use Rattle.std.specs.Prelude.{ℤ}
use Rattle.slot_box.specs.declared.cut.NamedCut.{NamedCut}
use Rattle.slot_box.specs.declared.node.Leaf.TheVariants.{Point}
use Rattle.slot_box.specs.declared.node.Node.TheVariants.{Leaf}
use Rattle.slot_box.specs.Splits.{left_of, right_of}
use Rattle.number_counts.proofs.CountLaws.{each_below-none, each_below-next}
use Rattle.number_counts.proofs.Members.{among-none, among-which}
use Rattle.work_chains.specs.Chains.{leaf_note, Reaches, at_root}
use Rattle.work_chains.specs.BoxChains.{BoxNote, AreSettledFrom}
use Rattle.search_node.specs.declared.looked.NodeNote.{NodeNote}
use Rattle.search_gather.specs.Gathered.{AreOfTree}
use Rattle.search_gather.specs.Numbered.{notes_of}
use Rattle.worker_tests.proofs.tests.trees.one_note_is_a_tree.Goals as goal

abbrev root_note : Option ℤ → NodeNote
root_note value = record { id = 0; node = Leaf Point; value = value; seen = None }

abbrev root_alone : BoxNote
root_alone = leaf_note 0 []

is-reached : (note : BoxNote) → note ≡ root_alone → Reaches left_of right_of [] (root_alone ∷ []) note.id note.box
is-reached note is =
    subst (λ (each : BoxNote). Reaches left_of right_of [] (root_alone ∷ []) each.id each.box) (sym is) at_root

is-settled : AreSettledFrom [] (root_alone ∷ []) 0
is-settled = record {
  ids = each_below-next 0 [] each_below-none;
  tickets = each_below-none;
  reached = λ note there. ⊎_elim (is-reached note) (λ none. absurd (among-none note none)) (among-which root_alone [] note there);
}

is-tree : (value : Option ℤ) → AreOfTree (notes_of ((root_note value ∷ []) ∷ []) ([] ∷ []))
is-tree value = record {
  root = [];
  t = 0;
  over = record { note = root_note value; box = [] } ∷ [];
  few = omega arith;
  settled = record { notes_are = refl; settled = is-settled };
}

are-of-tree : (value : Option ℤ) (lists : List (List NodeNote)) (cuts : List (List NamedCut))
    → lists ≡ (root_note value ∷ []) ∷ [] → cuts ≡ [] ∷ [] → AreOfTree (notes_of lists cuts)
are-of-tree value lists cuts noted none =
    subst (λ (own : List (List NamedCut)). AreOfTree (notes_of lists own)) (sym none)
    (subst (λ (each : List (List NodeNote)). AreOfTree (notes_of each ([] ∷ []))) (sym noted) (is-tree value))

pub gather-requires-clause-settled : goal.gather-requires-clause-settled
gather-requires-clause-settled g c =
    let note = c.from_vec-notes.ensures ∙ c.in_ok-vec.ensures.items in
    let lists = c.from_vec-lists.ensures ∙ c.in_ok-vec-2.ensures.items in
    let cuts = c.from_vec-cuts.ensures ∙ c.in_ok-vec-3.ensures.items in
    are-of-tree _ _ _
    (lists ∙ ap (λ (each : List NodeNote). each ∷ []) note)
    (cuts ∙ ap (λ (each : List NamedCut). each ∷ []) c.new.ensures)
