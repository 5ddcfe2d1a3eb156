use Rattle.std.proofs.Common.{◌≡◌, ◌∙◌, ◌-◌, [], ◌∷◌, ◌++◌, ℕ, Option, ap, length, sym, subst, arith, rules}
use Rattle.std.specs.Prelude.{MatchOption}
use Rattle.task_deck.specs.declared.ends.Door.{Door}
use Rattle.team_decks.specs.inside.Dealt.{IsAccounted, IsAccounting}
use Rattle.team_decks.proofs.AccountLaws.{accounted-all, accounting-more, accounting-none, dealt-here, door-of, inside, owner-of, owner-passes}
use Rattle.team_decks.proofs.accounting.account_all.Goals as goal

pub loop-owner-init : goal.loop-owner-init
loop-owner-init c = rw c.new-left.ensures (accounting-none c.args.doors c.args.owners c.args.rows c.requires.owners.many c.requires.rows)

pub loop-owner-preserved : goal.loop-owner-preserved
loop-owner-preserved c =
    let owners = c.pop.new.self in
    let doors = c.pop-in-Some.new.self in
    let door = c.unwrap-door.result in
    let doors_are : c.loop-owner.doors ≡ doors ++ door ∷ [] =
    subst (λ (o : Option Door). MatchOption o ((c.loop-owner.doors ≡ []) × (doors ≡ [])) (λ (d : Door). c.loop-owner.doors ≡ doors ++ d ∷ [])) c.unwrap-door.ensures
    c.pop-in-Some.ensures in
    let is : IsAccounting (doors ++ door ∷ []) c.args.doors (owners ++ c.in-Some.owner ∷ []) c.args.owners c.args.rows c.loop-owner.rows c.loop-owner.left =
    rw (doors_are, c.in-Some.ensures) at c.loop-owner.invariant in
    let here = dealt-here doors c.args.doors owners c.args.owners c.args.rows c.loop-owner.rows c.account_last.new.rows c.loop-owner.left c.account_last.new.left
    door c.in-Some.owner is in
    let last : IsAccounted c.args.doors (length owners) c.in-Some.owner c.loop-owner.rows c.account_last.new.rows c.loop-owner.left c.account_last.new.left =
    rw c.as_slice-number.ensures at (c.in_ok-account_last.ensures c.args.doors (rw c.as_slice-number.ensures here)) in
    accounting-more doors c.args.doors owners c.args.owners c.args.rows c.loop-owner.rows c.account_last.new.rows c.loop-owner.left c.account_last.new.left door
    c.in-Some.owner is last

pub account_last-requires : goal.account_last-requires
account_last-requires c =
    let owners = c.pop.new.self in
    let doors = c.pop-in-Some.new.self in
    let door = c.unwrap-door.result in
    let doors_are : c.loop-owner.doors ≡ doors ++ door ∷ [] =
    subst (λ (o : Option Door). MatchOption o ((c.loop-owner.doors ≡ []) × (doors ≡ [])) (λ (d : Door). c.loop-owner.doors ≡ doors ++ d ∷ [])) c.unwrap-door.ensures
    c.pop-in-Some.ensures in
    let is : IsAccounting (doors ++ door ∷ []) c.args.doors (owners ++ c.in-Some.owner ∷ []) c.args.owners c.args.rows c.loop-owner.rows c.loop-owner.left =
    rw (doors_are, c.in-Some.ensures) at c.loop-owner.invariant in
    let of = c.requires.owners in
    let count = length c.args.rows - 1 in
    let rows = c.loop-owner.rows in
    let left = c.loop-owner.left in
    let within = inside doors c.args.doors owners c.args.owners c.args.rows rows rows left left door c.in-Some.owner is count of in
    let many = of.many in
    let workers = c.requires.workers in
    let each = is.each_row in
    rw c.as_slice-number.ensures
    (record {
      number = omega (arith, within, many, workers, each);
      one = door-of doors c.args.doors owners c.args.owners c.args.rows rows rows left left door c.in-Some.owner is count of;
      passes = owner-passes doors c.args.doors owners c.args.owners c.args.rows rows rows left left door c.in-Some.owner is count of
          ∙ ap (λ (n : ℕ). n - 1) (sym each);
      dealt = (
        c.args.doors,
        dealt-here doors c.args.doors owners c.args.owners c.args.rows rows rows left left door c.in-Some.owner is,
        owner-of doors c.args.doors owners c.args.owners c.args.rows rows rows left left door c.in-Some.owner is count of,
      );
    })

pub returns : goal.returns
returns c =
    let none : c.loop-owner.owners ≡ [] = search rules in
    accounted-all c.args.doors c.loop-owner.doors c.loop-owner.owners c.args.owners c.args.rows c.loop-owner.rows c.loop-owner.left none c.loop-owner.invariant
