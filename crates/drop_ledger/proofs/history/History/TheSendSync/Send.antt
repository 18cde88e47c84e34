-- A history owns nothing, so it may go to any thread.
use denote.RattleType.{RattleType}
use denote.Param.Send.{IsSend}
use Rattle.drop_ledger.specs.contracts.history.History.{the_row}

-- A history is `Send`, whatever its items are.
pub send : (V : RattleType) → IsSend (the_row V)
send V =
    record { owned = λ d vs. ((λ vss. (tt, ((λ uss. (tt, tt)), tt))), tt); leaving = λ k f vs. tt }
