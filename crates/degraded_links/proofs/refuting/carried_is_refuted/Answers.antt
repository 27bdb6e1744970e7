use Rattle.degraded_links.proofs.Tried.{carried_refuted, points_apart, unknown_apart, searched_within, passed_by}
use Rattle.degraded_links.proofs.refuting.carried_is_refuted.Goals as goal

pub returns : goal.returns
returns g c =
    let e = c.args.engine.now in
    let f = c.args.frontier.now in
    let old = e.old.items in
    let entries = e.tried.entries in
    record {
      refuted = carried_refuted f entries c.requires old e.alone;
      points = points_apart f entries c.requires old e.alone;
      unknown = unknown_apart f entries c.requires old e.alone;
      searched = searched_within f entries c.requires old (g.E.EngineView.entries e.inner) e.kept;
      passed = passed_by old entries (g.E.EngineView.entries e.inner) e.kept;
    }
