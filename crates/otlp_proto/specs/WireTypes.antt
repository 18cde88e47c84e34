-- The numbers of wire types. (Protocol Buffers, Encoding: Message Structure)
use Rattle.std.specs.Prelude.{ℕ}
use Rattle.otlp_proto.specs.declared.encoder.fields.WireType.{WireType}
use Rattle.otlp_proto.specs.declared.encoder.fields.WireType.TheVariants.{Varint, SixtyFourBit}
use Rattle.otlp_proto.specs.declared.encoder.fields.WireType.TheVariants.{LengthDelimited}
use Rattle.otlp_proto.specs.declared.encoder.fields.WireType.TheVariants.{ThirtyTwoBit}

abbrev pub wire_type_number : WireType → ℕ
wire_type_number Varint = 0
wire_type_number SixtyFourBit = 1
wire_type_number LengthDelimited = 2
wire_type_number ThirtyTwoBit = 5
