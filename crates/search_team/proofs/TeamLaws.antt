-- The notes of all workers are those of one whole search tree.
use Rattle.std.proofs.Common.{◌≡◌, inl, inr, ℕ, ℤ, ◌+◌, ◌-◌, ◌<◌, ◌∙◌, Option, None, List, [], ◌∷◌, ◌++◌, length, map, ap, ap₂, refl, sym, subst, arith}
use Rattle.std.specs.Prelude.{All, IfSome, IsPermutation}
use Rattle.std.proofs.lemmas.List.{append-nil, append_assoc, length-map, length_push, map-append}
use Rattle.std.proofs.lemmas.List.Elements.{All-append, All-cons, All-head, All-nil, All-push, All-tail, All-weaker}
use Rattle.std.proofs.lemmas.List.Sorted.{IsPermutation-append_comm, IsPermutation-append_left, IsPermutation-append_right, IsPermutation-map, IsPermutation-refl, IsPermutation-trans}
use Rattle.number_counts.specs.Counts.{HasEachBelow}
use Rattle.number_laws.specs.Missing.{IsAtMost, greater}
use Rattle.number_laws.proofs.MissingLaws.{IsAtMost-refl, IsAtMost-trans}
use Rattle.plan_build.specs.Built.{IsPlanned, found_margin}
use Rattle.plant_model.specs.declared.parts.Parts.{Parts}
use Rattle.replay_core.specs.declared.planned.Planned.{Planned}
use Rattle.search_board.specs.Seats.{SeatView, seat_from}
use Rattle.leaf_value.specs.Settings.{plain_setting}
use Rattle.search_node.specs.declared.looked.NodeNote.{NodeNote}
use Rattle.search_node.specs.Notes.{NoteOver, box_note, notes_over}
use Rattle.slot_box.specs.declared.cut.NamedCut.{NamedCut}
use Rattle.slot_box.specs.declared.split.Split.{Split}
use Rattle.slot_box.specs.Tasks.{TaskParts}
use Rattle.task_deck.specs.Accounts.{all_stolen}
use Rattle.task_deck.specs.Decks.{owner_view}
use Rattle.team_decks.specs.Dealing.{popped_by_all, pushed_by_all}
use Rattle.team_decks.specs.Rows.{stolen_by_all}
use Rattle.work_chains.specs.BoxChains.{AreSettledFrom, BoxNote, BoxTask}
use Rattle.work_chains.specs.Chains.{Outcome, closed, divided, tickets_of}
use Rattle.work_chains.specs.Shares.{IsShare, Share, SharesSettle, all_came, all_notes, all_pushed}
use Rattle.branch_worker.specs.declared.site.Done.{Done}
use Rattle.branch_worker.specs.declared.site.Me.{Me}
use Rattle.branch_worker.specs.NoteBoxes.{IsTrueNote}
use Rattle.branch_worker.specs.NoteOrder.{AreSeenInTurn, ValuesFall}
use Rattle.branch_worker.specs.Work.{IsAloneDone, IsDone, IsLeftWell, IsSeenBetween, IsWorkNoted, box_task, first_tasks}
use Rattle.search_team.specs.declared.team.Together.{Together}
use Rattle.search_team.specs.Teamwork.{HaveNoCuts, IsTeamwork, all_over, lists_over}
use Rattle.search_team.specs.inside.Added.{IsAdded, alone_from}
use Rattle.search_team.specs.inside.Apart.{AreDone, greatest_found, joined_all}
use Rattle.search_team.specs.inside.Benches.{all_first}
use Rattle.search_team.proofs.JoinLaws.{IsKnownOf, KnowsMore, KnowsMore-done, KnowsMore-into, KnowsMore-trans, all-left-more, all_tickets, greater-assoc, joined-board, joined-knows, joined-knows-each, joined-offer, joined-seats, joined-tickets}

-- ---- lists of the same tasks

module _ {X : Type 0} where
  interchange : (a b c d : List X) → IsPermutation ((a ++ b) ++ (c ++ d)) ((a ++ c) ++ (b ++ d))
  interchange a b c d =
      subst (λ (l : List X). IsPermutation l ((a ++ c) ++ (b ++ d))) (ap (λ (l : List X). a ++ l) (append_assoc b c d) ∙ sym (append_assoc a b (c ++ d)))
      (subst (IsPermutation (a ++ ((b ++ c) ++ d))) (ap (λ (l : List X). a ++ l) (append_assoc c b d) ∙ sym (append_assoc a c (b ++ d)))
      (IsPermutation-append_right a ((b ++ c) ++ d) ((c ++ b) ++ d) (IsPermutation-append_left d (b ++ c) (c ++ b) (IsPermutation-append_comm b c))))

  -- what one has first, pops and steals, and then all others
  sorted-out : (f p s first popped stolen left : List X) →
      IsPermutation (((f ++ p) ++ s) ++ (first ++ ((popped ++ stolen) ++ left))) ((f ++ first) ++ (((p ++ popped) ++ (s ++ stolen)) ++ left))
  sorted-out f p s first popped stolen left =
      subst (λ (l : List X). IsPermutation (l ++ (first ++ ((popped ++ stolen) ++ left))) ((f ++ first) ++ (((p ++ popped) ++ (s ++ stolen)) ++ left)))
      (sym (append_assoc f p s))
      (IsPermutation-trans ((f ++ (p ++ s)) ++ (first ++ ((popped ++ stolen) ++ left))) ((f ++ first) ++ ((p ++ s) ++ ((popped ++ stolen) ++ left)))
      ((f ++ first) ++ (((p ++ popped) ++ (s ++ stolen)) ++ left)) (interchange f (p ++ s) first ((popped ++ stolen) ++ left))
      (IsPermutation-append_right (f ++ first) ((p ++ s) ++ ((popped ++ stolen) ++ left)) (((p ++ popped) ++ (s ++ stolen)) ++ left)
      (subst (λ (l : List X). IsPermutation l (((p ++ popped) ++ (s ++ stolen)) ++ left)) (append_assoc (p ++ s) (popped ++ stolen) left)
      (IsPermutation-append_left left ((p ++ s) ++ (popped ++ stolen)) ((p ++ popped) ++ (s ++ stolen)) (interchange p s popped stolen)))))

-- ---- tickets of notes, one list after another

tickets-append : (notes more : List BoxNote) → tickets_of (notes ++ more) ≡ tickets_of notes ++ tickets_of more
tickets-append [] more = refl
tickets-append (first ∷ notes) more = by first.outcome refl (tickets-append notes more)
  where
    by : (o : Outcome Split) → first.outcome ≡ o → tickets_of (notes ++ more) ≡ tickets_of notes ++ tickets_of more →
        tickets_of (first ∷ notes ++ more) ≡ tickets_of (first ∷ notes) ++ tickets_of more
    by (divided t s) is rest = rw (is, rest) refl
    by closed is rest = rw (is, rest) refl

over-append : (lists more : List (List NoteOver)) → all_over (lists ++ more) ≡ all_over lists ++ all_over more
over-append [] more = refl
over-append (over ∷ lists) more = ap (λ (l : List NoteOver). over ++ l) (over-append lists more) ∙ sym (append_assoc over (all_over lists) (all_over more))

-- ---- what is so of each list

-- what one worker's notes owe to the seat before the work, and to that of all after it
record IsOfTeam (parts : Parts) (n : ℕ) (before after : SeatView) (over : List NoteOver) : Type 0 where
  pub true_notes : All (IsTrueNote (plain_setting parts n)) over
  pub in_turn : AreSeenInTurn (notes_over over)
  pub falling : ValuesFall (notes_over over)
  pub left : All (IsLeftWell after) (notes_over over)
  pub seen : All (IsSeenBetween before.seen after.seen) (notes_over over)

of-team : (parts : Parts) (n : ℕ) (before after began ended : SeatView) (over : List NoteOver) (notes : List NodeNote) (found : Option Planned) →
    IsWorkNoted parts n began ended over notes found → IsAtMost before.seen began.seen → KnowsMore ended after → IsOfTeam parts n before after over
of-team parts n before after began ended over notes found work since more = record {
  true_notes = work.true_notes;
  in_turn = subst AreSeenInTurn work.notes_are work.in_turn;
  falling = subst ValuesFall work.notes_are work.falling;
  left = subst (All (IsLeftWell after)) work.notes_are (all-left-more ended after more notes work.left);
  seen = subst (All (IsSeenBetween before.seen after.seen)) work.notes_are
      (All-weaker (IsSeenBetween began.seen ended.seen) (IsSeenBetween before.seen after.seen)
      (λ note between. record {
        since = IsAtMost-trans before.seen began.seen note.seen since between.since;
        still = IsAtMost-trans note.seen ended.seen after.seen between.still more.seen;
      }) notes work.seen);
}

all-in : (P : NoteOver → Type 0) (lists : List (List NoteOver)) → All (All P) lists → All P (all_over lists)
all-in P [] each = All-nil P
all-in P (over ∷ lists) each = All-append P over (all_over lists) (All-head (All P) over lists each) (all-in P lists (All-tail (All P) over lists each))

abbrev AllNotes : (NodeNote → Type 0) → List NoteOver → Type 0
AllNotes P over = All P (notes_over over)

all-notes-in : (P : NodeNote → Type 0) (lists : List (List NoteOver)) → All (AllNotes P) lists → All P (notes_over (all_over lists))
all-notes-in P [] each = All-nil P
all-notes-in P (over ∷ lists) each =
    subst (All P) (sym (map-append (λ (one : NoteOver). one.note) over (all_over lists)))
    (All-append P (notes_over over) (notes_over (all_over lists)) (All-head (AllNotes P) over lists each) (all-notes-in P lists (All-tail (AllNotes P) over lists each)))

abbrev HasNoCut : List NamedCut → Type 0
HasNoCut own = own ≡ []

-- ---- each worker's share

module _ (parts : Parts) (n : ℕ) where
  abbrev share_of : (me : Me) (done : Done) → IsDone parts n me done → Share
  share_of me done is = record {
    came = map box_task (first_tasks me.first ++ (owner_view done.owner).popped ++ all_stolen done.passes);
    kept = is.taken.kept;
    pushed = map box_task (owner_view done.owner).pushed;
    taken = is.taken.taken;
    handed = is.taken.handed;
    notes = map box_note is.over;
  }

  abbrev shares : (mes : List Me) (dones : List Done) → AreDone parts n mes dones → List Share → List Share
  shares [] dones are last = last
  shares (me ∷ mes) [] are last = last
  shares (me ∷ mes) (done ∷ dones) are last = share_of me done are.0 ∷ shares mes dones are.1 last

  abbrev overs : (mes : List Me) (dones : List Done) → AreDone parts n mes dones → List (List NoteOver)
  overs [] dones are = []
  overs (me ∷ mes) [] are = []
  overs (me ∷ mes) (done ∷ dones) are = are.0.over ∷ overs mes dones are.1

  abbrev came_all : List Me → List Done → List TaskParts → List TaskParts
  came_all [] dones left = left
  came_all (me ∷ mes) [] left = left
  came_all (me ∷ mes) (done ∷ dones) left =
      (first_tasks me.first ++ (owner_view done.owner).popped ++ all_stolen done.passes) ++ came_all mes dones left

  module _ (last : List Share) where
    shares-are : (mes : List Me) (dones : List Done) (are : AreDone parts n mes dones) → All IsShare last → All IsShare (shares mes dones are last)
    shares-are [] dones are its = its
    shares-are (me ∷ mes) [] are its = its
    shares-are (me ∷ mes) (done ∷ dones) are its =
        All-cons IsShare (share_of me done are.0) (shares mes dones are.1 last)
        (record { chains = are.0.taken.chains; takes = are.0.taken.came; hands = are.0.taken.went }) (shares-are mes dones are.1 its)

    came-are : (mes : List Me) (dones : List Done) (are : AreDone parts n mes dones) (left : List TaskParts) → all_came last ≡ map box_task left →
        all_came (shares mes dones are last) ≡ map box_task (came_all mes dones left)
    came-are [] dones are left its = its
    came-are (me ∷ mes) [] are left its = its
    came-are (me ∷ mes) (done ∷ dones) are left its =
        let first = first_tasks me.first ++ (owner_view done.owner).popped ++ all_stolen done.passes in
        ap (λ (l : List BoxTask). map box_task first ++ l) (came-are mes dones are.1 left its) ∙ sym (map-append box_task first (came_all mes dones left))

    pushed-are : (mes : List Me) (dones : List Done) (are : AreDone parts n mes dones) → all_pushed last ≡ [] →
        all_pushed (shares mes dones are last) ≡ map box_task (pushed_by_all (map (λ (done : Done). done.owner) dones))
    pushed-are [] [] are its = its
    pushed-are [] (done ∷ dones) are its = absurd are
    pushed-are (me ∷ mes) [] are its = absurd are
    pushed-are (me ∷ mes) (done ∷ dones) are its =
        let first = (owner_view done.owner).pushed in
        ap (λ (l : List BoxTask). map box_task first ++ l) (pushed-are mes dones are.1 its)
        ∙ sym (map-append box_task first (pushed_by_all (map (λ (one : Done). one.owner) dones)))

    notes-are : (mes : List Me) (dones : List Done) (are : AreDone parts n mes dones) (more : List (List NoteOver)) → all_notes last ≡ map box_note (all_over more) →
        all_notes (shares mes dones are last) ≡ map box_note (all_over (overs mes dones are ++ more))
    notes-are [] dones are more its = its
    notes-are (me ∷ mes) [] are more its = its
    notes-are (me ∷ mes) (done ∷ dones) are more its =
        ap (λ (l : List BoxNote). map box_note are.0.over ++ l) (notes-are mes dones are.1 more its)
        ∙ sym (map-append box_note are.0.over (all_over (overs mes dones are.1 ++ more)))

    tickets-are : (mes : List Me) (dones : List Done) (are : AreDone parts n mes dones) (tickets : List ℕ) → tickets ≡ tickets_of (all_notes last) →
        all_tickets dones ++ tickets ≡ tickets_of (all_notes (shares mes dones are last))
    tickets-are [] [] are tickets its = its
    tickets-are [] (done ∷ dones) are tickets its = absurd are
    tickets-are (me ∷ mes) [] are tickets its = absurd are
    tickets-are (me ∷ mes) (done ∷ dones) are tickets its =
        append_assoc done.seat.tickets (all_tickets dones) tickets
        ∙ ap₂ (λ (a b : List ℕ). a ++ b) are.0.taken.used (tickets-are mes dones are.1 tickets its)
        ∙ sym (tickets-append (map box_note are.0.over) (all_notes (shares mes dones are.1 last)))

  -- what came to all, in order: their first tasks, what they popped and stole, and what is left for the last one
  came-sorted : (mes : List Me) (dones : List Done) → AreDone parts n mes dones → (left : List TaskParts) → IsPermutation (came_all mes dones left)
      (all_first mes ++ ((popped_by_all (map (λ (done : Done). done.owner) dones) ++ stolen_by_all (map (λ (done : Done). done.passes) dones)) ++ left))
  came-sorted [] [] are left = IsPermutation-refl left
  came-sorted [] (done ∷ dones) are left = absurd are
  came-sorted (me ∷ mes) [] are left = absurd are
  came-sorted (me ∷ mes) (done ∷ dones) are left =
      let f = first_tasks me.first in
      let p = (owner_view done.owner).popped in
      let s = all_stolen done.passes in
      let first = all_first mes in
      let popped = popped_by_all (map (λ (one : Done). one.owner) dones) in
      let stolen = stolen_by_all (map (λ (one : Done). one.passes) dones) in
      IsPermutation-trans (((f ++ p) ++ s) ++ came_all mes dones left) (((f ++ p) ++ s) ++ (first ++ ((popped ++ stolen) ++ left)))
      ((f ++ first) ++ (((p ++ popped) ++ (s ++ stolen)) ++ left))
      (IsPermutation-append_right ((f ++ p) ++ s) (came_all mes dones left) (first ++ ((popped ++ stolen) ++ left)) (came-sorted mes dones are.1 left))
      (sorted-out f p s first popped stolen left)

  module _ (before after : SeatView) where
    abbrev IsFrom : Me → Type 0
    IsFrom me = me.seat ≡ seat_from before

    lists-are : (mes : List Me) (dones : List Done) (are : AreDone parts n mes dones) → All IsFrom mes → All (IsKnownOf after) dones →
        All (IsOfTeam parts n before after) (overs mes dones are)
    lists-are [] dones are from known = All-nil (IsOfTeam parts n before after)
    lists-are (me ∷ mes) [] are from known = All-nil (IsOfTeam parts n before after)
    lists-are (me ∷ mes) (done ∷ dones) are from known =
        All-cons (IsOfTeam parts n before after) are.0.over (overs mes dones are.1)
        (of-team parts n before after me.seat done.seat are.0.over done.notes done.found are.0.work
        (subst (λ (s : SeatView). IsAtMost before.seen s.seen) (sym (All-head IsFrom me mes from)) (IsAtMost-refl before.seen))
        (All-head (IsKnownOf after) done dones known))
        (lists-are mes dones are.1 (All-tail IsFrom me mes from) (All-tail (IsKnownOf after) done dones known))

  noted : (mes : List Me) (dones : List Done) (are : AreDone parts n mes dones) → map (λ (done : Done). done.notes) dones ≡ lists_over (overs mes dones are)
  noted [] [] are = refl
  noted [] (done ∷ dones) are = absurd are
  noted (me ∷ mes) [] are = refl
  noted (me ∷ mes) (done ∷ dones) are = ap₂ (λ (a : List NodeNote) (b : List (List NodeNote)). a ∷ b) are.0.work.notes_are (noted mes dones are.1)

  without-cuts : (mes : List Me) (dones : List Done) → AreDone parts n mes dones → All HasNoCut (map (λ (done : Done). done.cuts) dones)
  without-cuts [] [] are = All-nil HasNoCut
  without-cuts [] (done ∷ dones) are = absurd are
  without-cuts (me ∷ mes) [] are = All-nil HasNoCut
  without-cuts (me ∷ mes) (done ∷ dones) are = All-cons HasNoCut done.cuts (map (λ (one : Done). one.cuts) dones) are.0.cuts (without-cuts mes dones are.1)

-- ---- all of them, and the last one

module _ (parts : Parts) (n number : ℕ) (root : TaskParts) (before : SeatView) (may : ℕ) (mes : List Me) (dones : List Done) (are : AreDone parts n mes dones)
    (from : All (λ (me : Me). me.seat ≡ seat_from before) mes) (left : List TaskParts) (old new : Together) (added : IsAdded parts n number left old new)
    (seat : old.seat ≡ joined_all (record before { may = may }) dones) where
  abbrev its : IsAloneDone parts n (alone_from old.seat number left) added.done
  its = added.owed

  abbrev pub lists : List (List NoteOver)
  lists = overs parts n mes dones are ++ its.over ∷ []

  abbrev last_share : Share
  last_share = record {
    came = map box_task left;
    kept = its.taken.kept;
    pushed = [];
    taken = map box_task left ++ its.taken.kept;
    handed = its.taken.kept;
    notes = map box_note its.over;
  }

  abbrev all_shares : List Share
  all_shares = shares parts n mes dones are (last_share ∷ [])

  last-is : All IsShare (last_share ∷ [])
  last-is =
      All-cons IsShare last_share [] (record {
        chains = its.taken.chains;
        takes = IsPermutation-refl (map box_task left ++ its.taken.kept);
        hands = IsPermutation-refl its.taken.kept;
      }) (All-nil IsShare)

  last-notes : all_notes (last_share ∷ []) ≡ map box_note (all_over (its.over ∷ []))
  last-notes = append-nil (map box_note its.over) ∙ ap (map box_note) (sym (append-nil its.over))

  tickets : before.tickets ≡ [] → new.seat.tickets ≡ tickets_of (all_notes all_shares)
  tickets none =
      ap (λ (s : SeatView). s.tickets) added.seat
      ∙ ap (λ (l : List ℕ). l ++ added.done.seat.tickets) (ap (λ (s : SeatView). s.tickets) seat ∙ joined-tickets (record before { may = may }) dones
      ∙ ap (λ (l : List ℕ). l ++ all_tickets dones) none)
      ∙ tickets-are parts n (last_share ∷ []) mes dones are added.done.seat.tickets (its.taken.used ∙ ap (λ (l : List BoxNote). tickets_of l) (sym (append-nil (map box_note its.over))))

  -- what came to all is the root's task and what all pushed
  abbrev pub AllCame : Type 0
  AllCame =
      IsPermutation (all_first mes ++ ((popped_by_all (map (λ (done : Done). done.owner) dones) ++ stolen_by_all (map (λ (done : Done). done.passes) dones)) ++ left))
      (root ∷ pushed_by_all (map (λ (done : Done). done.owner) dones))

  came : root.id ≡ 0 → AllCame → IsPermutation (all_came all_shares) ((0, root.box) ∷ all_pushed all_shares)
  came first all =
      let pushed = pushed_by_all (map (λ (done : Done). done.owner) dones) in
      let sorted = all_first mes ++ ((popped_by_all (map (λ (done : Done). done.owner) dones) ++ stolen_by_all (map (λ (done : Done). done.passes) dones)) ++ left) in
      let tasks = IsPermutation-map box_task (came_all parts n mes dones left) (root ∷ pushed)
      (IsPermutation-trans (came_all parts n mes dones left) sorted (root ∷ pushed) (came-sorted parts n mes dones are left) all) in
      subst (λ (l : List BoxTask). IsPermutation l ((0, root.box) ∷ all_pushed all_shares)) (sym (came-are parts n (last_share ∷ []) mes dones are left (append-nil (map box_task left))))
      (subst (λ (l : List BoxTask). IsPermutation (map box_task (came_all parts n mes dones left)) ((0, root.box) ∷ l)) (sym (pushed-are parts n (last_share ∷ []) mes dones are refl))
      (subst (λ (i : ℕ). IsPermutation (map box_task (came_all parts n mes dones left)) ((i, root.box) ∷ map box_task pushed)) first tasks))

  settled : SharesSettle → root.id ≡ 0 → before.tickets ≡ [] → AllCame → (t : ℕ) → HasEachBelow t new.seat.tickets →
      AreSettledFrom root.box (map box_note (all_over lists)) t
  settled settle first none all t each =
      subst (λ (l : List BoxNote). AreSettledFrom root.box l t) (notes-are parts n (last_share ∷ []) mes dones are (its.over ∷ []) last-notes)
      (settle root.box t all_shares (shares-are parts n (last_share ∷ []) mes dones are last-is) (came first all) (subst (HasEachBelow t) (tickets none) each))

  -- the seat of all knows what each of theirs does
  knows-old : KnowsMore old.seat new.seat
  knows-old =
      let more = KnowsMore-into (record old.seat { may = old.seat.may - 1 }) added.done.seat in
      subst (KnowsMore old.seat) (sym added.seat) (record { told = more.told; offer = more.offer; seen = more.seen })

  knows-last : KnowsMore added.done.seat new.seat
  knows-last = subst (KnowsMore added.done.seat) (sym added.seat) (KnowsMore-done (record old.seat { may = old.seat.may - 1 }) added.done.seat)

  knows-each : All (IsKnownOf new.seat) dones
  knows-each =
      All-weaker (IsKnownOf old.seat) (IsKnownOf new.seat) (λ done knows. KnowsMore-trans done.seat old.seat new.seat knows knows-old) dones
      (subst (λ (s : SeatView). All (IsKnownOf s) dones) (sym seat) (joined-knows-each (record before { may = may }) dones))

  since : IsAtMost before.seen old.seat.seen
  since = subst (λ (s : SeatView). IsAtMost before.seen s.seen) (sym seat) (joined-knows (record before { may = may }) dones).seen

  each-list : All (IsOfTeam parts n before new.seat) lists
  each-list =
      All-push (IsOfTeam parts n before new.seat) (overs parts n mes dones are) its.over (lists-are parts n before new.seat mes dones are from knows-each)
      (of-team parts n before new.seat (seat_from old.seat) added.done.seat its.over added.done.notes added.done.found its.work since knows-last)

  seats-kept : may + length dones ≡ before.may → 0 < old.seat.may → new.seat.stands + new.seat.may ≡ before.stands + before.may
  seats-kept room some =
      let stands = ap (λ (s : SeatView). s.stands) added.seat in
      let may_is = ap (λ (s : SeatView). s.may) added.seat in
      let old_stands = ap (λ (s : SeatView). s.stands) seat in
      let old_may = ap (λ (s : SeatView). s.may) seat in
      let one = its.work.seat.stands in
      let no_more = its.work.seat.may in
      let joined = joined-seats parts n before (record before { may = may }) mes dones are from in
      omega (arith, stands, may_is, old_stands, old_may, one, no_more, joined, room, some)

  pub teamwork : SharesSettle → root.id ≡ 0 → before.tickets ≡ [] → AllCame → may + length dones ≡ before.may → 0 < old.seat.may →
      found_margin old.found ≡ greatest_found None dones → IfSome old.found (IsPlanned parts n) → IsTeamwork parts n root before new.seat lists new.found
  teamwork settle first none all room some margin planned = record {
    settles = settled settle first none all;
    true_notes = all-in (IsTrueNote (plain_setting parts n)) lists
        (All-weaker (IsOfTeam parts n before new.seat) (All (IsTrueNote (plain_setting parts n))) (λ over of. of.true_notes) lists each-list);
    in_turn = All-weaker (IsOfTeam parts n before new.seat) (λ (over : List NoteOver). AreSeenInTurn (notes_over over)) (λ over of. of.in_turn) lists each-list;
    falling = All-weaker (IsOfTeam parts n before new.seat) (λ (over : List NoteOver). ValuesFall (notes_over over)) (λ over of. of.falling) lists each-list;
    left = all-notes-in (IsLeftWell new.seat) lists
        (All-weaker (IsOfTeam parts n before new.seat) (AllNotes (IsLeftWell new.seat)) (λ over of. of.left) lists each-list);
    seen = all-notes-in (IsSeenBetween before.seen new.seat.seen) lists
        (All-weaker (IsOfTeam parts n before new.seat) (AllNotes (IsSeenBetween before.seen new.seat.seen)) (λ over of. of.seen) lists each-list);
    plan = elim added.one [
      | inl same ↦ subst (λ (p : Option Planned). IfSome p (IsPlanned parts n)) (sym same) planned
      | inr one ↦ subst (λ (p : Option Planned). IfSome p (IsPlanned parts n)) (sym one) its.work.best.plan
    ];
    offered = ap (λ (s : SeatView). s.offer) added.seat
        ∙ ap₂ greater (ap (λ (s : SeatView). s.offer) seat ∙ joined-offer parts n before (record before { may = may }) mes dones are) its.work.best.offered
        ∙ greater-assoc before.offer (greatest_found None dones) (found_margin added.done.found)
        ∙ ap (λ (m : Option ℤ). greater before.offer (greater m (found_margin added.done.found))) (sym margin) ∙ ap (greater before.offer) (sym added.margin);
    board = ap (λ (s : SeatView). s.board) added.seat ∙ ap (λ (s : SeatView). s.board) seat ∙ joined-board (record before { may = may }) dones;
    seats = seats-kept room some;
  }

  pub notes-all : old.notes ≡ map (λ (done : Done). done.notes) dones → new.notes ≡ lists_over lists
  notes-all is =
      added.notes ∙ ap (λ (l : List (List NodeNote)). l ++ added.done.notes ∷ []) (is ∙ noted parts n mes dones are)
      ∙ ap (λ (notes : List NodeNote). lists_over (overs parts n mes dones are) ++ notes ∷ []) its.work.notes_are
      ∙ sym (map-append notes_over (overs parts n mes dones are) (its.over ∷ []))

  pub no-cuts : old.cuts ≡ map (λ (done : Done). done.cuts) dones → HaveNoCuts new.cuts
  no-cuts is =
      subst HaveNoCuts (sym (added.cuts ∙ ap (λ (l : List (List NamedCut)). l ++ added.done.cuts ∷ []) is))
      (All-push HasNoCut (map (λ (done : Done). done.cuts) dones) added.done.cuts (without-cuts parts n mes dones are) its.cuts)

  pub many-notes : old.notes ≡ map (λ (done : Done). done.notes) dones → length new.notes ≡ length dones + 1
  many-notes is =
      let all = ap (length {A = List NodeNote}) added.notes in
      let before_it = ap (length {A = List NodeNote}) is in
      omega (arith, all, before_it, length_push old.notes added.done.notes, length-map dones (λ (done : Done). done.notes))

  pub many-cuts : old.cuts ≡ map (λ (done : Done). done.cuts) dones → length new.cuts ≡ length dones + 1
  many-cuts is =
      let all = ap (length {A = List NamedCut}) added.cuts in
      let before_it = ap (length {A = List NamedCut}) is in
      omega (arith, all, before_it, length_push old.cuts added.done.cuts, length-map dones (λ (done : Done). done.cuts))
