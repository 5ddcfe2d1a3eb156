-- What a search by one worker or by several gives, step by step.
use Rattle.std.proofs.Common.{◌≡◌, ℕ, ℤ, ◌+◌, ◌≤◌, false, true, Option, Some, None, List, [], ◌∷◌, ◌++◌, append_assoc, length, map, refl, sym, ap, ap₂, ◌∙◌, subst, arith}
use Rattle.std.specs.Prelude.{◌⊎◌, All, Bool, IfSome, if◌then◌else◌, int_lt}
use Rattle.std.proofs.lemmas.List.{append-nil, length-map, map-append}
use Rattle.std.proofs.lemmas.List.Elements.{All-append, All-nil, All-cons, All-head, All-tail, All-push, All-weaker, Contains-append_left, Contains-append_right, Contains-push, recursion_from_All}
use Rattle.limits.specs.declared.TheConstants.{MOST_NODES, MOST_OWN_CUTS, MOST_SEATS}
use Rattle.number_laws.specs.Missing.{IsAtMost, greater}
use Rattle.number_laws.proofs.MissingLaws.{IsAtMost-refl, IsAtMost-trans, IsGreaterOf-greater}
use Rattle.greedy_plan.specs.Greedy.{all_operations, greedy_of}
use Rattle.plan_build.specs.Built.{IsBuilt, found_margin}
use Rattle.plant_model.specs.declared.parts.Parts.{Parts}
use Rattle.replay_core.specs.declared.planned.Planned.{Planned}
use Rattle.replay_core.specs.Legal.{IsLegal}
use Rattle.replay_core.specs.Margin.{margin_of}
use Rattle.slot_box.specs.declared.cut.CutParams.{CutParams}
use Rattle.slot_box.specs.declared.cut.NamedCut.{NamedCut}
use Rattle.slot_box.specs.declared.node.Leaf.{Leaf as LeafKind}
use Rattle.slot_box.specs.declared.node.Leaf.TheVariants.{Dead, Void, Dual, Undone, Point}
use Rattle.slot_box.specs.declared.node.Node.{Node}
use Rattle.slot_box.specs.declared.node.Node.TheVariants.{Inner, Leaf}
use Rattle.slot_box.specs.declared.slot.Slot.{Slot}
use Rattle.slot_box.specs.declared.term.Term.{Term}
use Rattle.slot_box.specs.declared.term.Term.TheVariants.{Row, Cut}
use Rattle.slot_box.specs.Boxes.{IsBox}
use Rattle.slot_box.specs.Laws.{OpenLeavesCost}
use Rattle.slot_box.specs.Tasks.{TaskParts}
use Rattle.slot_forms.specs.Cases.{plain, root_box}
use Rattle.leaf_value.specs.Budget.{KeepsBudget}
use Rattle.leaf_value.specs.LeafValue.{AreLawfulTerms, IsLawfulLeaf, IsLawfulTerm}
use Rattle.leaf_value.specs.Settings.{Setting, plain_setting}
use Rattle.search_board.specs.Seats.{BoardView, IsClosing, SeatView}
use Rattle.search_node.specs.declared.looked.NodeNote.{NodeNote}
use Rattle.search_node.specs.Notes.{NoteOver, notes_over}
use Rattle.branch_worker.specs.NoteBoxes.{IsOutcome, IsTrueNote}
use Rattle.branch_worker.specs.Work.{IsSeenBetween}
use Rattle.search_gather.specs.Gathered.{AreOfTree, AreSettledOver, IsGathered, IsTreeOf}
use Rattle.search_gather.specs.Numbered.{AreCutLists, leaf_numbered, node_numbered, note_numbered, notes_from, notes_of, term_numbered}
use Rattle.search_team.specs.declared.team.Together.{Together}
use Rattle.search_team.specs.Teamwork.{HaveNoCuts, IsAlone, IsTogether, all_over, lists_over}
use Rattle.crude_run.specs.Searched.{IsFound, IsGreatestNoted, IsNotedValue, IsReadySeat, IsSearched, all_noted, leaf_value_noted}
use Rattle.crude_run.specs.Worked.{KnewMargin, root_task}
use Rattle.crude_run.proofs.BuiltLaws.{built-better, built-earns, plan-built}
use Rattle.crude_run.proofs.TreeLaws.{bound-is, budget-kept, lawful as lawful-tree, numbers, thorough}

-- ---- the greatest value of a leaf that was noted

pub greatest-none : IsGreatestNoted [] None
greatest-none = record { most = λ k d inside. absurd (omega arith); there = tt }

abbrev IsBelow : Option ℤ → NodeNote → Type 0
IsBelow most each = IsAtMost (leaf_value_noted each) most

module _ (notes : List NodeNote) (note : NodeNote) where
  abbrev more : List NodeNote
  more = notes ++ note ∷ []

  still-there : (value : ℤ) → IsNotedValue notes value → IsNotedValue more value
  still-there value (each, inside, is) = (each, Contains-append_left notes (note ∷ []) each inside, is)

  there-more : (first second : Option ℤ) → leaf_value_noted note ≡ second → IfSome first (IsNotedValue notes) → IfSome (greater first second) (IsNotedValue more)
  there-more None None is there = tt
  there-more None (Some value) is there = (note, Contains-push notes note, is)
  there-more (Some best) None is there = still-there best there
  there-more (Some best) (Some value) is there = chosen (int_lt best value) refl
    where
      chosen : (less : Bool) → int_lt best value ≡ less → IsNotedValue more (if int_lt best value then value else best)
      chosen true less = rw less (note, Contains-push notes note, is)
      chosen false less = rw less (still-there best there)

  pub greatest-more : (bound : Option ℤ) → IsGreatestNoted notes bound → IsGreatestNoted more (greater bound (leaf_value_noted note))
  greatest-more bound so_far =
      let rise = IsGreaterOf-greater bound (leaf_value_noted note) in
      record {
        most = All-push (IsBelow (greater bound (leaf_value_noted note))) notes note
            (All-weaker (IsBelow bound) (IsBelow (greater bound (leaf_value_noted note)))
            (λ each below. IsAtMost-trans (leaf_value_noted each) bound (greater bound (leaf_value_noted note)) below rise.first) notes so_far.most)
            rise.second;
        there = there-more bound (leaf_value_noted note) refl so_far.there;
      }

-- ---- and in the notes of all workers

module _ (a b : List NodeNote) where
  there-joined : (x y : Option ℤ) → IfSome x (IsNotedValue a) → IfSome y (IsNotedValue b) → IfSome (greater x y) (IsNotedValue (a ++ b))
  there-joined None None first second = tt
  there-joined None (Some y) first (each, inside, is) = (each, Contains-append_right a b each inside, is)
  there-joined (Some x) None (each, inside, is) second = (each, Contains-append_left a b each inside, is)
  there-joined (Some x) (Some y) (each, inside, is) (other, within, also) = chosen (int_lt x y) refl
    where
      chosen : (less : Bool) → int_lt x y ≡ less → IsNotedValue (a ++ b) (if int_lt x y then y else x)
      chosen true less = rw less (other, Contains-append_right a b other within, also)
      chosen false less = rw less (each, Contains-append_left a b each inside, is)

  pub greatest-joined : (x y : Option ℤ) → IsGreatestNoted a x → IsGreatestNoted b y → IsGreatestNoted (a ++ b) (greater x y)
  greatest-joined x y first second =
      let rise = IsGreaterOf-greater x y in
      record {
        most = All-append (IsBelow (greater x y)) a b
            (All-weaker (IsBelow x) (IsBelow (greater x y)) (λ each below. IsAtMost-trans (leaf_value_noted each) x (greater x y) below rise.first) a first.most)
            (All-weaker (IsBelow y) (IsBelow (greater x y)) (λ each below. IsAtMost-trans (leaf_value_noted each) y (greater x y) below rise.second) b second.most);
        there = there-joined x y first.there second.there;
      }

all_noted-push : (lists : List (List NodeNote)) (notes : List NodeNote) → all_noted (lists ++ notes ∷ []) ≡ all_noted lists ++ notes
all_noted-push [] notes = append-nil notes
all_noted-push (first ∷ lists) notes =
    ap (λ (l : List NodeNote). first ++ l) (all_noted-push lists notes) ∙ sym (append_assoc first (all_noted lists) notes)

pub greatest-more_lists : (lists : List (List NodeNote)) (notes : List NodeNote) (x y : Option ℤ) → IsGreatestNoted (all_noted lists) x → IsGreatestNoted notes y →
    IsGreatestNoted (all_noted (lists ++ notes ∷ [])) (greater x y)
greatest-more_lists lists notes x y first second =
    subst (λ (l : List NodeNote). IsGreatestNoted l (greater x y)) (sym (all_noted-push lists notes)) (greatest-joined (all_noted lists) notes x y first second)

-- the notes over boxes of all workers are the notes of all workers
notes_over-append : (a b : List NoteOver) → notes_over (a ++ b) ≡ notes_over a ++ notes_over b
notes_over-append a b = map-append (λ (each : NoteOver). each.note) a b

all_noted-over : (lists : List (List NoteOver)) → all_noted (lists_over lists) ≡ notes_over (all_over lists)
all_noted-over [] = refl
all_noted-over (over ∷ lists) =
    ap (λ (l : List NodeNote). notes_over over ++ l) (all_noted-over lists) ∙ sym (notes_over-append over (all_over lists))

-- ---- notes without cuts keep their entries

module _ (setting : Setting) (none : setting.cuts ≡ []) (cuts : List NamedCut) where
  terms-kept : (terms : List Term) → AreLawfulTerms setting terms → map (term_numbered 0 cuts) terms ≡ terms
  terms-kept [] lawful = refl
  terms-kept (Row name y ∷ terms) lawful =
      ap (λ (l : List Term). Row name y ∷ l) (terms-kept terms (All-tail (IsLawfulTerm setting) (Row name y) terms lawful))
  terms-kept (Cut cut slot op y ∷ terms) lawful =
      let there = (All-head (IsLawfulTerm setting) (Cut cut slot op y) terms lawful).1 in
      let few = ap (length {A = CutParams}) none in absurd (omega (arith, there, few))

  leaf-numbered : (box : List Slot) (leaf : LeafKind) → IsLawfulLeaf setting box leaf → leaf_numbered 0 cuts leaf ≡ leaf
  leaf-numbered box (Dead at) is = refl
  leaf-numbered box (Void terms) is = ap Void (terms-kept terms is.0)
  leaf-numbered box (Dual q terms) is = ap (Dual q) (terms-kept terms is.2)
  leaf-numbered box (Undone q terms) is = ap (Undone q) (terms-kept terms is.2)
  leaf-numbered box Point is = refl

  node-numbered : (box : List Slot) (node : Node) (value seen : Option ℤ) → IsOutcome setting box node value seen → node_numbered 0 cuts node ≡ node
  node-numbered box (Inner ticket split) value seen outcome = refl
  node-numbered box (Leaf leaf) value seen outcome = ap Leaf (leaf-numbered box leaf outcome.lawful)

  notes-numbered : (over : List NoteOver) → All (IsTrueNote setting) over → map (note_numbered 0 cuts) (notes_over over) ≡ notes_over over
  notes-numbered [] true_notes = refl
  notes-numbered (first ∷ over) true_notes =
      let is = All-head (IsTrueNote setting) first over true_notes in
      let same = node-numbered first.box first.note.node first.note.value first.note.seen is.outcome in
      ap₂ (λ (each : NodeNote) (l : List NodeNote). each ∷ l)
      (ap (λ (node : Node). record { id = first.note.id; node = node; value = first.note.value; seen = first.note.seen }) same)
      (notes-numbered over (All-tail (IsTrueNote setting) first over true_notes))

-- ---- so do those of all workers, of whom none has a cut

all-left : {X : Type 0} (P : X → Type 0) (xs ys : List X) → All P (xs ++ ys) → All P xs
all-left P [] ys all = All-nil P
all-left P (x ∷ xs) ys all = All-cons P x xs (All-head P x (xs ++ ys) all) (all-left P xs ys (All-tail P x (xs ++ ys) all))

all-right : {X : Type 0} (P : X → Type 0) (xs ys : List X) → All P (xs ++ ys) → All P ys
all-right P [] ys all = all
all-right P (x ∷ xs) ys all = all-right P xs ys (All-tail P x (xs ++ ys) all)

module _ (setting : Setting) (none : setting.cuts ≡ []) where
  pub all-numbered : (lists : List (List NoteOver)) (cuts : List (List NamedCut)) → HaveNoCuts cuts → length cuts ≡ length lists →
      All (IsTrueNote setting) (all_over lists) → notes_from 0 (lists_over lists) cuts ≡ notes_over (all_over lists)
  all-numbered [] cuts empty each true_notes = refl
  all-numbered (over ∷ lists) [] empty each true_notes = absurd (omega (arith, each))
  all-numbered (over ∷ lists) (own ∷ cuts) empty each true_notes =
      let here : own ≡ [] = All-head (λ (list : List NamedCut). list ≡ []) own cuts empty in
      let kept = notes-numbered setting none own over (all-left (IsTrueNote setting) over (all_over lists) true_notes) in
      let nothing : 0 + length own ≡ 0 = (let few = ap (length {A = NamedCut}) here in omega (arith, few)) in
      let rest = all-numbered lists cuts (All-tail (λ (list : List NamedCut). list ≡ []) own cuts empty) (omega (arith, each))
      (all-right (IsTrueNote setting) over (all_over lists) true_notes) in
      ap₂ (λ (l m : List NodeNote). l ++ m) kept (ap (λ (from : ℕ). notes_from from (lists_over lists) cuts) nothing ∙ rest)
      ∙ sym (notes_over-append over (all_over lists))

pub small-lists : (cuts : List (List NamedCut)) → HaveNoCuts cuts → All (λ (list : List NamedCut). length list ≤ MOST_OWN_CUTS) cuts
small-lists cuts empty =
    All-weaker (λ (list : List NamedCut). list ≡ []) (λ (list : List NamedCut). length list ≤ MOST_OWN_CUTS)
    (λ own none. (let few = ap (length {A = NamedCut}) none in omega (arith, few))) cuts empty

-- ---- what workers gave back

pub searched-alone : (parts : Parts) (n workers : ℕ) (board : BoardView) (first : Option ℤ) (seat : SeatView) (root : TaskParts) (together : Together) →
    IsReadySeat board first seat → root ≡ root_task parts n → IsAlone parts n root seat together → IsSearched parts n workers board first together
searched-alone parts n workers board first seat root together ready root_is given = record {
  before = seat;
  ready = ready;
  lists = is.over ∷ [];
  work = is.work;
  notes = is.notes;
  cuts = subst HaveNoCuts (sym is.cuts)
      (All-cons (λ (own : List NamedCut). own ≡ []) [] [] refl (All-nil (λ (own : List NamedCut). own ≡ [])));
  each = (let own = ap (length {A = List NamedCut}) is.cuts in let notes = ap (length {A = List NodeNote}) is.notes in omega (arith, own, notes));
  few = (let notes = ap (length {A = List NodeNote}) is.notes in omega (arith, notes));
  alone = λ one. (is.over, refl, is.order);
}
  where
    is : IsAlone parts n (root_task parts n) seat together
    is = subst (λ (task : TaskParts). IsAlone parts n task seat together) root_is given

pub searched-together : (parts : Parts) (n workers : ℕ) (board : BoardView) (first : Option ℤ) (seat : SeatView) (root : TaskParts) (together : Together) →
    2 ≤ workers → IsReadySeat board first seat → root ≡ root_task parts n → IsTogether parts n root seat together →
    IsSearched parts n workers board first together
searched-together parts n workers board first seat root together several ready root_is given = record {
  before = seat;
  ready = ready;
  lists = is.lists;
  work = is.work;
  notes = is.notes;
  cuts = is.cuts;
  each = is.each;
  few = is.few;
  alone = λ one. absurd (omega (arith, several, one));
}
  where
    is : IsTogether parts n (root_task parts n) seat together
    is = subst (λ (task : TaskParts). IsTogether parts n task seat together) root_is given

-- ---- the end

-- what holds of all notes holds of the note of each
all-unmap : (P : NodeNote → Type 0) (over : List NoteOver) → All P (notes_over over) → All (λ (each : NoteOver). P each.note) over
all-unmap P [] all = All-nil (λ (each : NoteOver). P each.note)
all-unmap P (first ∷ over) all =
    All-cons (λ (each : NoteOver). P each.note) first over (All-head P first.note (notes_over over) all)
    (all-unmap P over (All-tail P first.note (notes_over over) all))

greater-below : (a b most : Option ℤ) → IsAtMost a most → IsAtMost b most → IsAtMost (greater a b) most
greater-below None b most first second = second
greater-below (Some a) None most first second = first
greater-below (Some a) (Some b) most first second = chosen (int_lt a b) refl
  where
    chosen : (less : Bool) → int_lt a b ≡ less → IsAtMost (Some (if int_lt a b then b else a)) most
    chosen true less = rw less second
    chosen false less = rw less first

module _ (parts : Parts) (n workers : ℕ) (board : BoardView) (first : Option Planned) (together : Together)
    (is : IsSearched parts n workers board (found_margin first) together) where
  abbrev setting : Setting
  setting = plain_setting parts n

  abbrev root : List Slot
  root = root_box (plain parts n)

  abbrev over : List NoteOver
  over = all_over is.lists

  -- no seat is lost, and all are at the board
  pub seats : together.seat.stands + together.seat.may ≡ MOST_SEATS
  seats = let kept = is.work.seats in let stands = is.ready.stands in let may = is.ready.may in omega (arith, kept, stands, may)

  pub at-board : together.seat.board ≡ board
  at-board = is.work.board ∙ is.ready.board

  pub cut-lists : AreCutLists together.notes together.cuts
  cut-lists = record {
    few = is.few;
    each = is.each;
    small = recursion_from_All (λ (list : List NamedCut). length list ≤ MOST_OWN_CUTS) together.cuts (small-lists together.cuts is.cuts);
  }

  noted : notes_over over ≡ notes_of together.notes together.cuts
  noted =
      sym (ap (λ (l : List (List NodeNote)). notes_of l together.cuts) is.notes
      ∙ all-numbered setting refl is.lists together.cuts is.cuts as-many is.work.true_notes)
    where
      as-many : length together.cuts ≡ length is.lists
      as-many = is.each ∙ ap (length {A = List NodeNote}) is.notes ∙ length-map is.lists notes_over

  all-noted : all_noted together.notes ≡ notes_over over
  all-noted = ap all_noted is.notes ∙ all_noted-over is.lists

  module _ (budget t : ℕ) (most : Option ℤ) (tickets : board.budget ≡ budget) (fits : budget ≤ MOST_NODES) (closing : IsClosing together.seat t most) where
    seat-budget : together.seat.board.budget ≡ budget
    seat-budget = ap (λ (b : BoardView). b.budget) at-board ∙ tickets

    pub within : t ≤ budget
    within = let less = closing.within in let same = seat-budget in omega (arith, less, same)

    settled : AreSettledOver root t (notes_of together.notes together.cuts) over
    settled = record { notes_are = noted; settled = is.work.settles t closing.each }

    pub of-tree : AreOfTree (notes_of together.notes together.cuts)
    of-tree = record { root = root; t = t; over = over; few = (let less = within in omega (arith, less, fits)); settled = settled }

    -- what was found, where the tree is that of the notes
    pub IsFound-from : (best : Option Planned) (bound : Option ℤ) (tree : List Node) → IsBuilt parts n (all_operations parts) first →
        IsTreeOf (notes_of together.notes together.cuts) tree → IsGreatestNoted (all_noted together.notes) bound →
        found_margin best ≡ greater (found_margin first) (found_margin together.found) → (best ≡ first) ⊎ (best ≡ together.found) → OpenLeavesCost → IsBox root →
        IsFound parts n budget workers (record { tickets = t; tree = tree; best = best; bound = bound })
    IsFound-from best bound tree built is_tree greatest rise either cost is_box = record {
      inner = gathered.inner;
      nodes = gathered.nodes;
      numbers = numbers setting t tree over gathered is.work.true_notes (let less = within in omega (arith, less, fits));
      tickets = gathered.tickets;
      parents = gathered.parents;
      lawful = lawful-tree setting t tree over gathered is.work.true_notes;
      thorough = thorough setting t tree over gathered is.work.true_notes;
      worked = record {
        lists = is.lists;
        gathered = gathered;
        true_notes = is.work.true_notes;
        in_turn = is.work.in_turn;
        falling = is.work.falling;
        earned = earned;
        first = known;
        alone = is.alone;
      };
      bound = bound-is setting t tree over gathered is.work.true_notes bound (subst (λ (l : List NodeNote). IsGreatestNoted l bound) all-noted greatest);
      plan = plan-built parts n (all_operations parts) best better_built;
      built = better_built;
      budget_kept = subst (KeepsBudget setting budget tree) best_is
          (budget-kept setting t tree over gathered is.work.true_notes budget together.seat most is.work.left within told at_most is_box cost);
    }
      where
        gathered : IsGathered root t over tree
        gathered = is_tree root t over settled

        better_built : IsBuilt parts n (all_operations parts) best
        better_built = built-better parts n (all_operations parts) first together.found best built is.work.plan rise either

        best_is : most ≡ found_margin best
        best_is =
            closing.offered ∙ is.work.offered ∙ ap (λ (offer : Option ℤ). greater offer (found_margin together.found)) is.ready.offer ∙ sym rise

        told : (number : ℕ) → together.seat.told ≡ Some number → t ≡ budget
        told number spent = closing.spent number spent ∙ seat-budget

        seen_between : All (λ (each : NoteOver). IsSeenBetween is.before.seen together.seat.seen each.note) over
        seen_between = all-unmap (IsSeenBetween is.before.seen together.seat.seen) over is.work.seen

        earned : All (λ (each : NoteOver). IsAtMost each.note.seen (found_margin best)) over
        earned =
            All-weaker (λ (each : NoteOver). IsSeenBetween is.before.seen together.seat.seen each.note) (λ (each : NoteOver). IsAtMost each.note.seen (found_margin best))
            (λ each between. subst (IsAtMost each.note.seen) best_is (IsAtMost-trans each.note.seen together.seat.seen most between.still closing.seen)) over seen_between

        known : IsLegal parts (greedy_of parts n (all_operations parts)) → All (KnewMargin (greedy_of parts n (all_operations parts)) parts) over
        known legal =
            let margin : Option ℤ = Some (margin_of parts (greedy_of parts n (all_operations parts))) in
            let earns = built-earns parts n (all_operations parts) first built legal in
            All-weaker (λ (each : NoteOver). IsSeenBetween is.before.seen together.seat.seen each.note) (KnewMargin (greedy_of parts n (all_operations parts)) parts)
            (λ each between.
            IsAtMost-trans margin is.before.seen each.note.seen (IsAtMost-trans margin (found_margin first) is.before.seen earns is.ready.seen) between.since)
            over seen_between

        at_most : IsAtMost (greater together.seat.offer together.seat.seen) most
        at_most =
            greater-below together.seat.offer together.seat.seen most
            (subst (IsAtMost together.seat.offer) (sym closing.offered) (IsAtMost-refl together.seat.offer)) closing.seen
