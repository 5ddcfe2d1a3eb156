use Rattle.std.proofs.Common.{◌≡◌, length, ap, rules, arith}
use Rattle.search_team.specs.declared.benches.Bench.{Bench}
use Rattle.search_team.proofs.ApartLaws.{have-worked}
use Rattle.search_team.proofs.BenchLaws.{all-owed, all-returned, all-seated, many-benches, many-mes}
use Rattle.search_team.proofs.together.work_in_threads.Goals as goal

pub serve_all-requires-clause-some : goal.serve_all-requires-clause-some
serve_all-requires-clause-some g c κs within =
    let (mes, are, is) = c.in_ok-benches.ensures.benches in
    let benches = ap (length {A = Bench}) are in
    let each = many-benches mes in
    let many = many-mes c.say_busy.new.seat c.args.dealt.owners c.args.dealt.rows c.args.root mes is in
    omega (arith, benches, each, many, c.requires.some)

pub serve_all-requires-clause-seated : goal.serve_all-requires-clause-seated
serve_all-requires-clause-seated g c κs within =
    let all = c.in_ok-benches.ensures.benches in
    let board : c.say_busy.new.seat.board ≡ c.args.scene.now.board.now = search rules in
    all-seated _ (length c.args.dealt.owners) c.say_busy.new.seat c.args.dealt.owners c.args.dealt.rows c.args.root all.0 board c.requires.dealt all.2 c.in_ok-benches.benches all.1

pub take_apart-requires-clause-owed : goal.take_apart-requires-clause-owed
take_apart-requires-clause-owed g c =
    let all = c.in_ok-benches.ensures.benches in
    let board : c.say_busy.new.seat.board ≡ c.args.scene.now.board.now = search rules in
    all-owed _ c.say_busy.new.seat c.args.dealt.owners c.args.dealt.rows c.args.root all.0 c.in_ok-benches.benches c.serve_all.new.benches all.2 all.1
    c.serve_all.ensures.many c.serve_all.ensures.returned c.args.scene.now.board.now board

pub returns : goal.returns
returns g c =
    let all = c.in_ok-benches.ensures.benches in
    let same : c.say_busy.new.seat ≡ c.args.seat = search rules in
    let returned = all-returned _ c.say_busy.new.seat c.args.dealt.owners c.args.dealt.rows c.args.root all.0 c.in_ok-benches.benches c.serve_all.new.benches all.2 all.1
    c.serve_all.ensures.many c.serve_all.ensures.returned in
    have-worked c.args.scene.now.plant.now c.args.scene.now.n c.args.seat c.say_busy.new.seat c.seat_all.new.seat c.args.dealt.owners c.args.dealt.rows c.args.root all.0
    c.serve_all.new.benches c.take_apart.result same all.2 c.in_ok-benches.ensures.seat returned c.take_apart.ensures
