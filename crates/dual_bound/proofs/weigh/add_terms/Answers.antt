use Rattle.std.proofs.Common.{rules, ◌<◌, ◌≡◌, ◌≤◌, ◌^◌, ◌+◌, ◌*ℤ◌, take, length, get_or, unsigned_abs, to_z, of_z}
use Rattle.std.specs.Int.{w128}
use Rattle.std.proofs.lemmas.List.{take_all, get_or_default}
use Rattle.std.proofs.lemmas.List.Elements.{All-more}
use Rattle.linear_form.specs.declared.row.RowTerm.{RowTerm}
use Rattle.dual_bound.specs.inside.Cells.{Adds}
use Rattle.dual_bound.specs.Dual.{factor_in, factor_of}
use Rattle.dual_bound.proofs.CellLaws.{terms-more, adds-read, adds-stored}
use Rattle.dual_bound.proofs.FactorLaws.{prefix-small, prefix-within, no_term}
use Rattle.dual_bound.proofs.weigh.add_terms.Goals as goal

pub add_term-requires-clause-room : goal.add_term-requires-clause-room
add_term-requires-clause-room c =
    prefix-within c.args.ranges.now.extent c.args.times c.args.from c.loop-term.term-index c.args.terms.now c.args.cells.now c.loop-term.cells
    c.requires.columns c.requires.once c.loop-term.invariant.fits c.requires.times c.requires.room
    (adds-read c.args.times (λ k. factor_of c.args.ranges.now.extent (c.args.from + k) (take c.loop-term.term-index c.args.terms.now)) c.args.cells.now
    c.loop-term.cells c.ranges.times.sfits
    c.loop-term.invariant.added)

pub loop-term-preserved : goal.loop-term-preserved
loop-term-preserved c =
    let term = get_or c.args.terms.now c.loop-term.term-index no_term in
    let there : c.loop-term.term-index < length c.args.terms.now = search rules in
    let raw : Adds (λ k. to_z w128 (of_z w128 c.args.times) *ℤ factor_in c.args.ranges.now.extent (c.args.from + k) term) c.loop-term.cells
    c.add_term.new.cells = c.add_term.ensures.added in
    let step = adds-read c.args.times
    (λ k. factor_in c.args.ranges.now.extent (c.args.from + k) term) c.loop-term.cells c.add_term.new.cells c.ranges.times.sfits raw in
    let before = adds-read c.args.times
    (λ k. factor_of c.args.ranges.now.extent (c.args.from + k) (take c.loop-term.term-index c.args.terms.now)) c.args.cells.now c.loop-term.cells
    c.ranges.times.sfits
    c.loop-term.invariant.added in
    let after = terms-more c.args.ranges.now.extent c.args.terms.now c.args.times c.args.from c.loop-term.term-index term c.args.cells.now c.loop-term.cells
    c.add_term.new.cells there
    (get_or_default c.args.terms.now c.loop-term.term-index no_term term there) before step in
    record {
      added = adds-stored c.args.times
          (λ k. factor_of c.args.ranges.now.extent (c.args.from + k) (take (c.loop-term.term-index + 1) c.args.terms.now)) c.args.cells.now c.add_term.new.cells
          c.ranges.times.sfits after;
      fits = All-more (λ (t : RowTerm). unsigned_abs t.factor ≤ 2 ^ 63) c.args.terms.now c.loop-term.term-index no_term there c.loop-term.invariant.fits
          c.add_term.ensures.small;
    }

pub returns-clause-small : goal.returns-clause-small
returns-clause-small c = λ j.
    let all : take c.loop-term.term-index c.args.terms.now ≡ c.args.terms.now = take_all c.loop-term.term-index c.args.terms.now (search rules) in
    rw all at (prefix-small c.args.ranges.now.extent c.loop-term.term-index c.args.terms.now c.requires.columns c.requires.once c.loop-term.invariant.fits j)
