-- Which signals beside traces were posted to a service. (profile)
use Rattle.std.specs.Prelude.{true}
use Rattle.otlp_receiver.specs.declared.reply.denial.Denial.{Denial}
use Rattle.otlp_receiver.specs.declared.reply.denial.Denial.TheVariants as denials
use Rattle.otlp_receiver.specs.declared.reply.strays.Strays.{Strays}

-- after a request was refused for this reason
abbrev pub noted : Strays → Denial → Strays
noted strays denials.NoMetrics = record strays { metrics = true }
noted strays denials.NoLogs = record strays { logs = true }
noted strays _ = strays
