use Rattle.std.proofs.Common.{◌∙◌, refl, ap, slice_get}
use Rattle.otlp_span.specs.Parts.{call_view}
use Rattle.trace_run.specs.Calls.{CallsAmong}
use Rattle.trace_run.proofs.SpanCalls.{answered-is, asks-nothing-is, ended-is, many-is, table-is}
use Rattle.trace_run.proofs.table.SpanTable.call.Goals as goal

pub returns : goal.returns
returns g c =
    let old = c.args.self.now in
    let n = c.args.number in
    let made = call_view c.args.call.now in
    let news = c.call_among.new.spans.items in
    let after = c.call_among.new.pass in
    let before = c.args.pass.now in
    let answer = c.call_among.result in
    let slot = slice_get old.spans n in
    let called : CallsAmong g.P.EndPass.admits n made slot old.spans before answer news after =
    rw (ap (λ t. t.spans) c.self.view_is) at c.call_among.ensures.called in
    record {
      answered =
          λ k setup steps h. answered-is g.S.Sampler.meaning g.R.Rng.stream g.P.EndPass.admits n old
          news before after answer made slot refl called k setup steps h;
      asks_nothing =
          λ k. asks-nothing-is g.S.Sampler.meaning g.R.Rng.stream g.P.EndPass.admits n old news
          before after answer made slot called k;
      ended =
          ended-is g.S.Sampler.meaning g.R.Rng.stream g.P.EndPass.admits n old news before after
          answer made slot refl called;
      table =
          λ setup steps h. table-is g.S.Sampler.meaning g.R.Rng.stream setup steps n made old _ h
          (ap (λ t. t.tracers) c.self.view_is)
          (ap (λ t. t.rng) c.self.view_is) g.P.EndPass.admits before after answer slot refl called;
      many =
          many-is g.S.Sampler.meaning g.R.Rng.stream g.P.EndPass.admits n old news before after
          answer made slot called;
      room = c.call_among.ensures.room ∙ ap (λ t. t.room) c.self.view_is;
    }
