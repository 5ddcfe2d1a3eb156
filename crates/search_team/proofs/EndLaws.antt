-- What is given back in the end.
use Rattle.std.proofs.Common.{◌≡◌, ℕ, ◌+◌, ◌-◌, ◌<◌, ◌≤◌, ◌∙◌, None, List, [], ◌∷◌, ◌++◌, length, map, ap, refl, sym, subst, arith}
use Rattle.std.specs.declared.alloc.AllocError.{AllocError}
use Rattle.std.specs.Prelude.{IfOk, IsPermutation, Result}
use Rattle.std.proofs.lemmas.List.Elements.{All-nil}
use Rattle.std.proofs.lemmas.List.Sorted.{IsPermutation-append_right, IsPermutation-refl, IsPermutation-sym}
use Rattle.std.proofs.lemmas.Result.{IfOk-weaker}
use Rattle.limits.specs.declared.TheConstants.{MOST_WORKERS}
use Rattle.plant_model.specs.declared.parts.Parts.{Parts}
use Rattle.search_board.specs.Seats.{SeatView, seat_from}
use Rattle.search_node.specs.declared.looked.NodeNote.{NodeNote}
use Rattle.slot_box.specs.declared.cut.NamedCut.{NamedCut}
use Rattle.slot_box.specs.Tasks.{TaskParts}
use Rattle.task_deck.specs.declared.ends.DoorPass.{DoorPass}
use Rattle.task_deck.specs.declared.ends.Owner.{Owner}
use Rattle.team_decks.specs.Dealing.{AreLeftOf, popped_by_all, pushed_by_all}
use Rattle.team_decks.specs.Rows.{stolen_by_all}
use Rattle.work_chains.specs.Shares.{SharesSettle}
use Rattle.branch_worker.specs.declared.site.Done.{Done}
use Rattle.branch_worker.specs.declared.site.Me.{Me}
use Rattle.search_team.specs.declared.apart.Apart.{Apart}
use Rattle.search_team.specs.declared.team.Together.{Together}
use Rattle.search_team.specs.Teamwork.{IsAlone, IsTogether}
use Rattle.search_team.specs.inside.Added.{IsAdded}
use Rattle.search_team.specs.inside.Apart.{HaveWorked}
use Rattle.search_team.proofs.BenchLaws.{many-mes}
use Rattle.search_team.proofs.DoneLaws.{as-many}
use Rattle.search_team.proofs.JoinLaws.{joined-board, joined-may}
use Rattle.search_team.proofs.TeamLaws.{lists, many-cuts, many-notes, no-cuts, notes-all, teamwork}

-- what all workers but the last one gave back
abbrev pub so_far : Apart → Together
so_far apart = record { seat = apart.seat; notes = apart.notes; cuts = apart.cuts; found = apart.found }

module _ (parts : Parts) (n workers : ℕ) (seat : SeatView) (owners : List Owner) (rows : List (List DoorPass)) (root : TaskParts) (apart : Apart)
    (many : length owners ≡ workers) (have : HaveWorked parts n seat owners rows root apart) where
  pub apart-board : apart.seat.board ≡ seat.board
  apart-board = ap (λ (s : SeatView). s.board) have.is.seat ∙ joined-board (record seat { may = seat.may - length owners }) have.dones

  pub apart-may : workers + 1 ≤ seat.may → 0 < apart.seat.may
  apart-may room =
      let is = ap (λ (s : SeatView). s.may) have.is.seat in
      let more = joined-may (record seat { may = seat.may - length owners }) have.dones in
      omega (arith, is, more, many, room)

  many-dones : length have.dones ≡ workers
  many-dones = as-many parts n have.mes have.dones have.done ∙ many-mes seat owners rows root have.mes have.seated ∙ many

  module _ (left : List TaskParts) (is_left : AreLeftOf apart.owners apart.rows left) (settle : SharesSettle) (first : root.id ≡ 0) (none : seat.tickets ≡ [])
      (room : workers + 1 ≤ seat.may) (few : workers ≤ MOST_WORKERS) where
    all : IsPermutation (root ∷ ((popped_by_all apart.owners ++ stolen_by_all apart.rows) ++ left)) (root ∷ pushed_by_all apart.owners)
    all =
        IsPermutation-append_right (root ∷ []) ((popped_by_all apart.owners ++ stolen_by_all apart.rows) ++ left) (pushed_by_all apart.owners)
        (IsPermutation-sym (pushed_by_all apart.owners) ((popped_by_all apart.owners ++ stolen_by_all apart.rows) ++ left) is_left)

    together : (new : Together) → IsAdded parts n workers left (so_far apart) new → IsTogether parts n root seat new
    together new added =
        let may = seat.may - length owners in
        let mes = have.mes in
        let dones = have.dones in
        let each = many-notes parts n workers root seat may mes dones have.done have.seated.seats left (so_far apart) new added have.is.seat have.is.notes in
        let each_cuts = many-cuts parts n workers root seat may mes dones have.done have.seated.seats left (so_far apart) new added have.is.seat have.is.cuts in
        record {
          lists = lists parts n workers root seat may mes dones have.done have.seated.seats left (so_far apart) new added have.is.seat;
          work = teamwork parts n workers root seat may mes dones have.done have.seated.seats left (so_far apart) new added have.is.seat settle first none
              (subst (λ (l : List TaskParts). IsPermutation (l ++ ((popped_by_all (map (λ (done : Done). done.owner) dones) ++ stolen_by_all (map (λ (done : Done). done.passes) dones)) ++ left)
              ) (root ∷ pushed_by_all (map (λ (done : Done). done.owner) dones))) (sym have.seated.firsts)
              (subst (λ (r : List (List DoorPass)). IsPermutation (root ∷ ((popped_by_all (map (λ (done : Done). done.owner) dones) ++ stolen_by_all r) ++ left))
              (root ∷ pushed_by_all (map (λ (done : Done). done.owner) dones))) have.is.rows
              (subst (λ (o : List Owner). IsPermutation (root ∷ ((popped_by_all o ++ stolen_by_all apart.rows) ++ left)) (root ∷ pushed_by_all o)) have.is.owners all)))
              (omega (arith, many, many-dones, room)) (apart-may room) have.is.margin have.is.plan;
          notes = notes-all parts n workers root seat may mes dones have.done have.seated.seats left (so_far apart) new added have.is.seat have.is.notes;
          cuts = no-cuts parts n workers root seat may mes dones have.done have.seated.seats left (so_far apart) new added have.is.seat have.is.cuts;
          each = omega (arith, each, each_cuts);
          few = omega (arith, each, many-dones, few);
        }

    pub together-end : (result : Result Together AllocError) → IfOk result (IsAdded parts n workers left (so_far apart)) → IfOk result (IsTogether parts n root seat)
    together-end result = IfOk-weaker result (IsAdded parts n workers left (so_far apart)) (IsTogether parts n root seat) together

-- ---- one worker alone

module _ (parts : Parts) (n : ℕ) (seat : SeatView) (root : TaskParts) (settle : SharesSettle) (first : root.id ≡ 0) (none : seat.tickets ≡ []) (some : 0 < seat.may) where
  abbrev pub nobody : Together
  nobody = record { seat = seat; notes = []; cuts = []; found = None }

  alone : (new : Together) → IsAdded parts n 0 (root ∷ []) nobody new → IsAlone parts n root seat new
  alone new added = record {
    over = added.owed.over;
    order = record { kept = added.owed.taken.kept; chains = added.owed.taken.chains };
    work = teamwork parts n 0 root seat seat.may [] [] tt (All-nil (λ (me : Me). me.seat ≡ seat_from seat)) (root ∷ []) nobody new added refl settle first none
        (IsPermutation-refl (root ∷ [])) (omega arith) some refl tt;
    notes = notes-all parts n 0 root seat seat.may [] [] tt (All-nil (λ (me : Me). me.seat ≡ seat_from seat)) (root ∷ []) nobody new added refl refl;
    cuts = added.cuts ∙ ap (λ (own : List NamedCut). own ∷ []) added.owed.cuts;
  }

  -- with whatever lists these were begun
  abbrev begun : List (List NodeNote) → List (List NamedCut) → Together
  begun notes cuts = record { seat = seat; notes = notes; cuts = cuts; found = None }

  pub alone-end : (result : Result Together AllocError) (tasks : List TaskParts) (notes : List (List NodeNote)) (cuts : List (List NamedCut)) → tasks ≡ root ∷ [] →
      notes ≡ [] → cuts ≡ [] → IfOk result (IsAdded parts n 0 tasks (begun notes cuts)) → IfOk result (IsAlone parts n root seat)
  alone-end result tasks notes cuts only no_notes no_cuts added =
      IfOk-weaker result (IsAdded parts n 0 (root ∷ []) nobody) (IsAlone parts n root seat) alone
      (subst (λ (t : List TaskParts). IfOk result (IsAdded parts n 0 t nobody)) only
      (subst (λ (l : List (List NodeNote)). IfOk result (IsAdded parts n 0 tasks (begun l []))) no_notes
      (subst (λ (l : List (List NamedCut)). IfOk result (IsAdded parts n 0 tasks (begun notes l))) no_cuts added)))
