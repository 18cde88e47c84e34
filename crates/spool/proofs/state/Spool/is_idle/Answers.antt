use Rattle.std.proofs.Common.{ap, ◌∙◌, List, ◌++◌}
use Rattle.std.specs.Option.{option_to_list}
use Rattle.spool.specs.declared.state.Segment.{Segment}
use Rattle.spool.proofs.RollLaws.{idle-from, idle-to, newest-ends}
use Rattle.spool.proofs.state.Spool.is_idle.Goals as goal

pub returns-then-not-is_newest_ended : goal.returns-then-not-is_newest_ended
returns-then-not-is_newest_ended g c = λ known was. (
  λ yes. absurd (cc (yes)),
  λ none.
      let ended =
      newest-ends (g.D.Device.files c.args.self.now.device) c.args.self.now.older.items
      c.args.self.now.growing c.args.self.now.done was.segments was.done none in
      let yes = c.is_newest_ended.ensures.1 ended in
      absurd (cc (yes, c.if-not-is_newest_ended.true)),
)

pub returns : goal.returns
returns g c = λ known was.
    let disk = g.D.Device.files c.args.self.now.device in
    let are =
    ap (λ (l : List Segment). l ++ option_to_list c.args.self.now.growing) c.deref.ensures.value
    ∙ was.segments in (
      λ yes.
          idle-from disk c.deref.result.now c.args.self.now.growing c.args.self.now.done are
          was.done
          (c.are_ended.ensures.0 yes)
          (c.is_newest_ended.ensures.0 c.if-not-is_newest_ended.false),
      λ none.
          c.are_ended.ensures.1
          (idle-to disk c.deref.result.now c.args.self.now.growing c.args.self.now.done are was.done
          none),
    )
