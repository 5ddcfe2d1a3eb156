use Rattle.crude_run.proofs.MakingLaws.{made_answered, made_below}
use Rattle.crude_run.proofs.make.make_text.Goals as goal

pub finish-requires : goal.finish-requires
finish-requires g c = made_below c.args.number c.args.solve c.make_answer.result c.make_answer.ensures

pub returns-clause-answered : goal.returns-clause-answered
returns-clause-answered g c =
    made_answered c.args.number c.args.solve c.make_answer.result _ _ c.make_answer.ensures c.finish.ensures.answered
