use Rattle.std.proofs.Common.{◌≡◌, ◌<◌, arith}
use Rattle.otel_settings.specs.declared.variable.TheConstants.Variable.{ALL}
use Rattle.otel_settings.proofs.Environments.{nothing_read, none_is_read, some_is_read}
use Rattle.otel_settings.proofs.Environments.{all_are_read}
use Rattle.otel_settings.proofs.environment.variables.Goals as goal
use Rattle.otel_settings.proofs.environment.variables.Goals.{in-Some+in_ok-push, in_default}

pub loop-variable-init : goal.loop-variable-init
loop-variable-init g c = λ name. rw c.new-all.ensures.items (nothing_read _ name)

pub loop-variable-preserved : goal.loop-variable-preserved
loop-variable-preserved g c =
    let inside : c.loop-variable.variable-index < 36 = omega arith in
    elim c.match-branch-2.branch [
      | in-Some+in_ok-push w ↦
          rw w.all-is
          (some_is_read _ ALL c.loop-variable.all.items _ c.loop-variable.variable-index _ _
          c.in_ok-text.field-0 _ inside c.name-name.ensures c.in_ok-text.ensures w.in-Some.is
          w.in_ok-push.ensures.items c.loop-variable.invariant)
      | in_default w ↦
          rw w.all-is
          (none_is_read _ ALL c.loop-variable.all.items c.loop-variable.variable-index _ _
          c.in_ok-text.field-0 inside c.name-name.ensures c.in_ok-text.ensures w.in_default.is
          c.loop-variable.invariant)
    ]

pub returns : goal.returns
returns g c =
    let past : c.loop-variable.variable-index ≡ 36 = omega arith in
    all_are_read _ c.loop-variable.variable-index _ past c.loop-variable.invariant
