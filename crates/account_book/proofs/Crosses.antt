-- What a thread captures may cross to it where each of the values may, and so may an answer.
use mathlib.Core.List.{[], ◌∷◌}
use mir.Syntax.{Sym}
use denote.RattleType.{RattleType}
use denote.Struct.Field.{row_field}
use denote.Struct.Tuple.{TupleAt, type_at}
use denote.Param.Send.{IsSend, sendable}
use denote.Param.SendFields.{declared_send, variants_send, as_row_send}
use Rattle.std.below.core.specs.contracts.result.Result as Result

-- A tuple of three values is `Send` where each of them is.
pub three_send : (ν : Sym) (S T U : RattleType) → IsSend S → IsSend T → IsSend U
    → IsSend (TupleAt ν (S ∷ T ∷ U ∷ []))
three_send ν S T U s t u =
    declared_send (type_at ν (S ∷ T ∷ U ∷ []))
    (as_row_send (row_field S) s, (as_row_send (row_field T) t, (as_row_send (row_field U) u, tt)))

-- A tuple of four values is `Send` where each of them is.
pub four_send : (ν : Sym) (S T U V : RattleType) → IsSend S → IsSend T → IsSend U → IsSend V
    → IsSend (TupleAt ν (S ∷ T ∷ U ∷ V ∷ []))
four_send ν S T U V s t u v =
    declared_send (type_at ν (S ∷ T ∷ U ∷ V ∷ [])) (
      as_row_send (row_field S) s,
      (
        as_row_send (row_field T) t,
        (as_row_send (row_field U) u, (as_row_send (row_field V) v, tt)),
      ),
    )

-- A tuple of five values is `Send` where each of them is.
pub five_send : (ν : Sym) (S T U V W : RattleType) → IsSend S → IsSend T → IsSend U → IsSend V
    → IsSend W → IsSend (TupleAt ν (S ∷ T ∷ U ∷ V ∷ W ∷ []))
five_send ν S T U V W s t u v w =
    declared_send (type_at ν (S ∷ T ∷ U ∷ V ∷ W ∷ [])) (
      as_row_send (row_field S) s,
      (
        as_row_send (row_field T) t,
        (
          as_row_send (row_field U) u,
          (as_row_send (row_field V) v, (as_row_send (row_field W) w, tt)),
        ),
      ),
    )

-- A `Result` is `Send` where its value and its error are.
pub result_send : (T E : RattleType) → IsSend T → IsSend E → IsSend (Result.the_row T E)
result_send T E t e = search (sendable, variants_send, t, e) depth 60 fits 20000
