use Rattle.std.proofs.Common.{◌≡◌, ℕ, max, ◌+ℤ◌, if◌then◌else◌, List, [], ◌∷◌, ◌++◌, length, get_or, sym, ap, subst, ◌∙◌, arith, to_z, of_z, w64}
use Rattle.std.proofs.lemmas.Int.{ints}
use Rattle.std.proofs.lemmas.List.{with_items_is, length_push}
use Rattle.std.specs.Vec.{with_items}
use Rattle.plant_model.specs.declared.details.Op.{Op}
use Rattle.replay_core.specs.declared.timed.Timed.{Timed}
use Rattle.replay_core.specs.Replayed.{Replayed}
use Rattle.replay_core.specs.State.{state_after, draw_at}
use Rattle.replay_core.specs.inside.Tally.{AreTallies, tally_after}
use Rattle.replay_core.specs.inside.Latest.{start_of, end_of, AreLatest}
use Rattle.replay_core.specs.Legal.{CanRun}
use Rattle.replay_core.specs.Margin.{earned_of}
use Rattle.replay_core.proofs.StepLaws.{CanRun_push}
use Rattle.replay_core.proofs.TallyLaws.{AreTallies_push, AreLatest_push}
use Rattle.replay_core.proofs.ReplayLaws.{seen, may_run, run_of, can_move, draw_is, moved_is, can_count, can_earn, earned_is, margins_fit}
use Rattle.replay_core.proofs.running.Replay.accept.Goals as goal

pub op-op-requires : goal.op-op-requires
op-op-requires c =
    let may = may_run c.self.inside.plant.now c.self.inside.order c.self.inside.steps.items c.args.self.now c.args.t c.self.view_is c.sound.ensures.plant
    c.self.invariant.can_run c.requires.few c.requires.keeps in
    (run_of c.self.inside.plant.now c.self.inside.order c.self.inside.steps.items c.args.t may).known

pub move_volume-drawn-requires : goal.move_volume-drawn-requires
move_volume-drawn-requires c =
    let may = may_run c.self.inside.plant.now c.self.inside.order c.self.inside.steps.items c.args.self.now c.args.t c.self.view_is c.sound.ensures.plant
    c.self.invariant.can_run c.requires.few c.requires.keeps in
    can_move c.self.inside.plant.now c.self.inside.order c.self.inside.steps.items c.args.t c.as_mut_slice.result.now c.op-op.result c.into.result may
    (c.as_mut_slice.ensures.value ∙ c.self.invariant.held) c.op-op.ensures.value c.into.ensures

pub count-requires : goal.count-requires
count-requires c =
    let parts = c.self.inside.plant.now in
    let steps = c.self.inside.steps.items in
    let may = may_run parts c.self.inside.order steps c.args.self.now c.args.t c.self.view_is c.sound.ensures.plant c.self.invariant.can_run c.requires.few
    c.requires.keeps in
    can_count parts c.self.inside.order steps c.args.t c.as_mut_slice-2.result.now c.op-op.result may
    (subst (AreTallies parts steps) (sym c.as_mut_slice-2.ensures.value) c.self.invariant.tallies) c.op-op.ensures.value

pub note-requires : goal.note-requires
note-requires c =
    let parts = c.self.inside.plant.now in
    let steps = c.self.inside.steps.items in
    let may = may_run parts c.self.inside.order steps c.args.self.now c.args.t c.self.view_is c.sound.ensures.plant c.self.invariant.can_run c.requires.few
    c.requires.keeps in
    let known = (run_of parts c.self.inside.order steps c.args.t may).known in
    let count = c.self.invariant.starts.count in
    let same = ap length c.as_mut_slice-3.ensures.value in
    omega arith

pub note-requires-2 : goal.note-requires-2
note-requires-2 c =
    let parts = c.self.inside.plant.now in
    let steps = c.self.inside.steps.items in
    let may = may_run parts c.self.inside.order steps c.args.self.now c.args.t c.self.view_is c.sound.ensures.plant c.self.invariant.can_run c.requires.few
    c.requires.keeps in
    let known = (run_of parts c.self.inside.order steps c.args.t may).known in
    let count = c.self.invariant.ends.count in
    let same = ap length c.as_mut_slice-4.ensures.value in
    omega arith

pub earned-requires : goal.earned-requires
earned-requires c =
    let parts = c.self.inside.plant.now in
    let steps = c.self.inside.steps.items in
    let may = may_run parts c.self.inside.order steps c.args.self.now c.args.t c.self.view_is c.sound.ensures.plant c.self.invariant.can_run c.requires.few
    c.requires.keeps in
    let drawn = draw_is parts steps c.args.t c.as_mut_slice.result.now c.op-op.result c.into.result c.move_volume-drawn.result (c.as_mut_slice.ensures.value
    ∙ c.self.invariant.held) c.op-op.ensures.value c.into.ensures c.move_volume-drawn.ensures.draw in
    let can = can_earn parts c.self.inside.order steps c.args.t c.move_volume-drawn.result c.as_slice.result.now may drawn (c.as_slice.ensures.value
    ∙ c.self.invariant.margins) in
    record { crudes = can.crudes; few = can.few; small = can.small }

pub overflow_add-self : goal.overflow_add-self
overflow_add-self c =
    let parts = c.self.inside.plant.now in
    let steps = c.self.inside.steps.items in
    let may = may_run parts c.self.inside.order steps c.args.self.now c.args.t c.self.view_is c.sound.ensures.plant c.self.invariant.can_run c.requires.few
    c.requires.keeps in
    let drawn = draw_is parts steps c.args.t c.as_mut_slice.result.now c.op-op.result c.into.result c.move_volume-drawn.result (c.as_mut_slice.ensures.value
    ∙ c.self.invariant.held) c.op-op.ensures.value c.into.ensures c.move_volume-drawn.ensures.draw in
    let earned = earned_is parts steps c.args.t c.op-op.result c.move_volume-drawn.result c.as_slice.result.now c.earned.result c.op-op.ensures.value drawn
    (c.as_slice.ensures.value ∙ c.self.invariant.margins) c.earned.ensures in
    let fit = margins_fit parts c.self.inside.order steps c.args.t may in
    let before = c.self.invariant.earned in
    omega (arith, ints)

pub push_reserved-requires : goal.push_reserved-requires
push_reserved-requires c =
    let few = may_run c.self.inside.plant.now c.self.inside.order c.self.inside.steps.items c.args.self.now c.args.t c.self.view_is c.sound.ensures.plant
    c.self.invariant.can_run c.requires.few c.requires.keeps in
    let short = few.few in
    let room = c.self.invariant.room in
    omega (arith, c.self.inside.steps.ok.0)

pub invariant_of-self : goal.invariant_of-self
invariant_of-self c =
    let inside = c.self.inside in
    let parts = inside.plant.now in
    let steps = inside.steps.items in
    let t = c.args.t in
    let op = c.op-op.result in
    let same_op = c.op-op.ensures.value in
    let may = may_run parts c.self.inside.order steps c.args.self.now t c.self.view_is c.sound.ensures.plant c.self.invariant.can_run c.requires.few
    c.requires.keeps in
    let pushed : c.push_reserved.new.self.items ≡ steps ++ t ∷ [] = c.push_reserved.ensures.items in
    let state = c.as_mut_slice.ensures.value ∙ c.self.invariant.held in
    let drawn = draw_is parts steps t c.as_mut_slice.result.now op c.into.result c.move_volume-drawn.result state same_op c.into.ensures
    c.move_volume-drawn.ensures.draw in
    let moved = moved_is parts steps t c.as_mut_slice.result.now c.move_volume-drawn.new.state op c.move_volume-drawn.result state same_op drawn
    c.move_volume-drawn.ensures.moved in
    let held_is = with_items_is inside.held c.move_volume-drawn.new.state (c.move_volume-drawn.auto.state ∙ c.as_mut_slice.ensures.len) in
    let tallies_are = with_items_is inside.tallies c.count.new.tallies (c.count.auto.tallies ∙ c.as_mut_slice-2.ensures.len) in
    let starts_are = with_items_is inside.starts c.note.new.table (c.note.auto.table ∙ c.as_mut_slice-3.ensures.len) in
    let ends_are = with_items_is inside.ends c.note-2.new.table (c.note-2.auto.table ∙ c.as_mut_slice-4.ensures.len) in
    let tallies = AreTallies_push parts steps t c.as_mut_slice-2.result.now c.count.new.tallies
    (subst (AreTallies parts steps) (sym c.as_mut_slice-2.ensures.value) c.self.invariant.tallies) c.count.auto.tallies
    (λ p d within. c.count.ensures p d within ∙ ap (λ (o : Op). tally_after o t p (get_or c.as_mut_slice-2.result.now p d)) same_op) in
    let known = (run_of parts c.self.inside.order steps t may).known in
    let starts = AreLatest_push start_of parts steps t c.as_mut_slice-3.result.now
    (subst (AreLatest start_of parts steps) (sym c.as_mut_slice-3.ensures.value) c.self.invariant.starts) known in
    let ends = AreLatest_push end_of parts steps t c.as_mut_slice-4.result.now
    (subst (AreLatest end_of parts steps) (sym c.as_mut_slice-4.ensures.value) c.self.invariant.ends) known in
    let earned = earned_is parts steps t op c.move_volume-drawn.result c.as_slice.result.now c.earned.result same_op drawn (c.as_slice.ensures.value
    ∙ c.self.invariant.margins) c.earned.ensures in
    let fit = margins_fit parts c.self.inside.order steps t may in
    let before = c.self.invariant.earned in
    let sum : to_z w64 (of_z w64 (to_z w64 (of_z w64 inside.earned) +ℤ to_z w64 (of_z w64 c.earned.result))) ≡ earned_of parts (steps ++ t ∷ []) =
    omega (arith, ints) in
    record {
      can_run = subst (CanRun parts c.self.inside.order) (sym pushed) (CanRun_push parts c.self.inside.order steps t may.accepted may.none);
      few = (let count = ap length pushed in let one = length_push steps t in let few = may.few in omega arith);
      room = (let room = c.self.invariant.room in let same = c.push_reserved.ensures.capacity in omega arith);
      held = held_is ∙ moved ∙ ap (state_after parts) (sym pushed);
      tallies = subst (λ (xs : List Timed). AreTallies parts xs (with_items inside.tallies c.count.new.tallies).items) (sym pushed)
          (subst (AreTallies parts (steps ++ t ∷ [])) (sym tallies_are) tallies);
      starts = subst (λ (xs : List Timed). AreLatest start_of parts xs (with_items inside.starts c.note.new.table).items) (sym pushed)
          (subst (AreLatest start_of parts (steps ++ t ∷ [])) (sym (starts_are ∙ c.note.ensures)) starts);
      ends = subst (λ (xs : List Timed). AreLatest end_of parts xs (with_items inside.ends c.note-2.new.table).items) (sym pushed)
          (subst (AreLatest end_of parts (steps ++ t ∷ [])) (sym (ends_are ∙ c.note-2.ensures)) ends);
      margins = c.self.invariant.margins;
      earned = sum ∙ ap (earned_of parts) (sym pushed);
    }

pub returns : goal.returns
returns c =
    let parts = c.self.inside.plant.now in
    let steps = c.self.inside.steps.items in
    let t = c.args.t in
    let may = may_run parts c.self.inside.order steps c.args.self.now t c.self.view_is c.sound.ensures.plant c.self.invariant.can_run c.requires.few
    c.requires.keeps in
    let pushed : c.push_reserved.new.self.items ≡ steps ++ t ∷ [] = c.push_reserved.ensures.items in
    let state = c.as_mut_slice.ensures.value ∙ c.self.invariant.held in
    let drawn = draw_is parts steps t c.as_mut_slice.result.now c.op-op.result c.into.result c.move_volume-drawn.result state c.op-op.ensures.value
    c.into.ensures c.move_volume-drawn.ensures.draw in
    record {
      draw = drawn ∙ ap (λ (r : Replayed). draw_at r.parts r.steps t) c.self.view_is;
      volume = c.move_volume-drawn.ensures.volume ∙ c.into.ensures;
      after = ap (seen parts c.self.inside.order) pushed ∙ ap (λ (r : Replayed). seen r.parts r.order (r.steps ++ t ∷ [])) c.self.view_is;
      can_run = subst (CanRun parts c.self.inside.order) (sym pushed) (CanRun_push parts c.self.inside.order steps t may.accepted may.none);
    }
