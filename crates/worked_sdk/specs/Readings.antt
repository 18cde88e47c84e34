-- What bodies take, computed.
use Rattle.std.specs.Prelude.{ℕ, List}
use Rattle.model_message.specs.Wire.{row, septets}
use Rattle.otlp_read.specs.Memory.{message_size, request_size}

-- how many bytes the reading of a request takes
unfoldable pub size_of : List ℕ → ℕ
unfolding message_size row septets
size_of body = request_size body
