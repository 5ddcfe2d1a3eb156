use Rattle.std.proofs.Common.{◌≡◌, ◌∷◌, [], ◌++◌, Some, rules}
use Rattle.search_team.proofs.ApartLaws.{AreApart-more, AreApart-none, apart-end, owed-board, owed-rest}
use Rattle.search_team.proofs.apart.take_apart.Goals as goal

pub loop-bench-init : goal.loop-bench-init
loop-bench-init c =
    record { own = search rules; owed = c.requires.owed; apart = AreApart-none c.args.seat c.args.benches c.nothing-apart.result c.nothing-apart.ensures }

pub add-requires-clause-its : goal.add-requires-clause-its
add-requires-clause-its c =
    let benches : c.loop-bench.benches ≡ c.pop.new.self ++ c.in-Some.bench ∷ [] = search rules in
    let there : c.in-Some.bench.done ≡ Some c.in-Some-given_back.done = search rules in
    owed-board c.args.board.now c.loop-bench.benches c.pop.new.self c.in-Some.bench benches c.loop-bench.invariant.owed c.in-Some-given_back.done there

pub loop-bench-preserved : goal.loop-bench-preserved
loop-bench-preserved c =
    let benches : c.loop-bench.benches ≡ c.pop.new.self ++ c.in-Some.bench ∷ [] = search rules in
    let there : c.in-Some.bench.done ≡ Some c.in-Some-given_back.done = search rules in
    record {
      own = search rules;
      owed = owed-rest c.args.board.now c.loop-bench.benches c.pop.new.self c.in-Some.bench benches c.loop-bench.invariant.owed;
      apart = AreApart-more c.args.seat c.args.benches c.loop-bench.benches c.pop.new.self c.in-Some.bench c.in-Some-given_back.done c.loop-bench.apart c.add.new.apart benches there
          c.loop-bench.invariant.apart c.in_ok-add.ensures.apart;
    }

pub returns : goal.returns
returns c =
    let none : c.loop-bench.benches ≡ [] = search rules in
    apart-end c.args.seat c.args.benches c.loop-bench.benches c.loop-bench.apart none c.loop-bench.invariant.apart
