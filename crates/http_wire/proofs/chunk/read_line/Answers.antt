use Rattle.std.proofs.Common.{rules, ap, ◌++◌, ◌∷◌, [], ◌≡◌, ◌<◌, ◌≤◌, ◌∙◌, length, sym, subst}
use Rattle.std.proofs.Common.{refl, arith, Ok}
use Rattle.std.specs.Prelude.{Some, option_to_list}
use Rattle.std.proofs.KnownBytes.{Consumes-nil, Consumes-trans}
use Rattle.std.specs.Io.KnownBytes.{Consumes}
use Rattle.httparse.specs.Grammar.{HasNoChunkLine}
use Rattle.http_wire.specs.Parses.{ParsesLine}
use Rattle.http_wire.proofs.ChunkLemmas.{no_line_of_nothing, no_line_yet, line_read}
use Rattle.http_wire.proofs.chunk.read_line.Goals as goal

pub loop-text-init : goal.loop-text-init
loop-text-init g c =
    let empty = c.clear.ensures.items in
    let left = g.R.FaultRead.remaining c.args.reader.now in (
      subst (Consumes left left) (sym empty) (Consumes-nil left),
      subst HasNoChunkLine (sym empty) no_line_of_nothing,
      subst (λ text. length text ≤ c.args.most) (sym empty) (omega arith),
      refl,
    )

pub returns-in-Some-clause-line : goal.returns-in-Some-clause-line
returns-in-Some-clause-line g c =
    let found : ParsesLine c.push_reserved.new.self.items (Ok (Some c.in-Some.size)) =
    search rules in
    let none = subst HasNoChunkLine (sym c.reserve.ensures.items) c.loop-text.invariant.1 in
    let below : length c.reserve.new.self.items < c.args.most =
    subst (λ t. length t < c.args.most) (sym c.reserve.ensures.items) (search rules) in
    line_read c.args.most c.reserve.new.self.items c.push_reserved.new.self.items _ c.in-Some.size
    none c.push_reserved.ensures.items below found

pub loop-text-preserved : goal.loop-text-preserved
loop-text-preserved g c =
    let items = c.push_reserved.ensures.items in
    let before = c.reserve.ensures.items in
    let len = c.push_reserved.ensures.len in
    let kept = c.reserve.ensures.len in
    let test = c.loop-text-test.true in
    let read = c.read_byte.ensures in
    let remaining = g.R.FaultRead.remaining in
    let byte = c.in-Ok-Some.byte in
    let step : Consumes (remaining c.loop-text.reader) (remaining c.read_byte.new.reader)
    (byte ∷ []) =
    subst (λ o.
    Consumes (remaining c.loop-text.reader) (remaining c.read_byte.new.reader) (option_to_list o))
    c.in-Ok-Some.field-0-is c.in-Ok-Some.ensures.some in
    let text : c.push_reserved.new.self.items ≡ c.loop-text.text.items ++ byte ∷ [] =
    items ∙ ap (λ t. t ++ byte ∷ []) before in (
      subst (Consumes (remaining c.args.reader.now) (remaining c.read_byte.new.reader)) (sym text)
          (Consumes-trans _ _ _ _ _ c.loop-text.invariant.0 step),
      subst HasNoChunkLine (sym text)
          (no_line_yet _ _ c.loop-text.invariant.1 c.if-byte-eq10.false),
      omega (arith, len, kept, test),
      c.in-Ok-Some.ensures.counted ∙ c.loop-text.invariant.3,
    )
