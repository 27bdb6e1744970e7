use Rattle.cut_bounds.proofs.Parted.{cuts_parted, given_up_uncut, points_uncut, refuted_within, rest_parted}
use Rattle.cut_bounds.proofs.parting.cuts_are_refuted.Goals as goal

pub returns : goal.returns
returns g c =
    let view = g.E.EngineView in
    let e = c.args.engine.now in
    let q = view.question e.inner in
    let f = c.args.frontier.now in
    record {
      points = points_uncut e.sets q f e.tried.entries c.requires c.inner-inner.ensures.refuted;
      unknown = given_up_uncut e.sets q f e.tried.entries c.requires c.inner-inner.ensures.refuted;
      within = refuted_within e.sets q f e.tried.entries c.requires c.inner-inner.ensures.refuted c.inner-inner.ensures.within;
      cuts = cuts_parted e.sets q f e.tried.entries c.requires c.inner-inner.ensures.refuted;
      inner = rest_parted e.sets q f e.tried.entries c.requires c.inner-inner.ensures.refuted (view.entries e.inner) c.inner-inner.ensures.kept;
    }
