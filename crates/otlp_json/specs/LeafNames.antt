-- What fields hold that are no message, and members, by name, for what is said of them in other
-- crates. (Protocol Buffers, "ProtoJSON Format")
use Rattle.otlp_json.specs.declared.names.Leaf.{Leaf}
use Rattle.otlp_json.specs.declared.names.Leaf.TheVariants as leaves
use Rattle.otlp_json.specs.declared.names.Member.{Member}

abbrev pub AnyLeaf : Type 0
AnyLeaf = Leaf

abbrev pub AnyMember : Type 0
AnyMember = Member

abbrev pub text : Leaf
text = leaves.Text

abbrev pub id : Leaf
id = leaves.Id

abbrev pub bytes : Leaf
bytes = leaves.Bytes

abbrev pub bool : Leaf
bool = leaves.Bool

abbrev pub uint32 : Leaf
uint32 = leaves.Uint32

abbrev pub fixed32 : Leaf
fixed32 = leaves.Fixed32

abbrev pub enum : Leaf
enum = leaves.Enum

abbrev pub int64 : Leaf
int64 = leaves.Int64

abbrev pub fixed64 : Leaf
fixed64 = leaves.Fixed64

abbrev pub double : Leaf
double = leaves.Double
