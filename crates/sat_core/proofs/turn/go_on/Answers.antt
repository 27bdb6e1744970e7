use Rattle.std.proofs.Common.{refl, ◌∙◌}
use Rattle.sat_core.proofs.{Jumping.backed_differ, Readiness.{IsGrown, ready_more}, Turning.grown_guided}
use Rattle.sat_core.proofs.turn.go_on.Goals as goal

pub returns : goal.returns
returns c =
    let core = c.args.core.now in
    let guide = c.args.guide.now in
    let line = c.args.line.now in
    let grown : IsGrown core c.go_back.new.core guide.awake c.learn-3.new.self line = record { vars = c.go_back.ensures.vars; clauses = c.in_ok-id.ensures.added; names = c.in_ok-learn-2.ensures.names; formula = c.in_ok-learn-2.ensures.formula; held = c.in_ok-learn-2.ensures.held } in
    record { guided = grown_guided core c.go_back.new.core guide _ line c.in_ok-id.id c.requires.guided (backed_differ core line.lits c.requires.backed) grown c.in_ok-id.ensures.id c.in_ok-learn-2.ensures.ids refl (c.settle.ensures ∙ c.go_back.ensures.decider ∙ c.learn.ensures) c.learn-2.ensures; vars = grown.vars; ready = λ base lines ready written fresh id. rw c.learn-2.ensures (ready_more base lines core c.go_back.new.core guide.awake c.learn-3.new.self guide.sleepers line ready c.requires.guided.listed written fresh id grown) }
