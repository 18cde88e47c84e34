use Rattle.std.proofs.Common.{sym, ◌∙◌, codes}
use Rattle.std.specs.Prelude.{from_bits}
use Rattle.std.specs.Float.{binary64}
use Rattle.std.proofs.lemmas.Bool.{lt-ltb, le-ltb}
use Rattle.std.proofs.lemmas.Float.{T_from_false}
use lib.Ieee.Bits.{nan_bits_above}
use Rattle.json.specs.Token.{string}
use Rattle.otlp_json.specs.Seen.{float_seen}
use Rattle.otlp_json.proofs.Chains.{written_seen}
use Rattle.view_json.proofs.Doubles.{minus_seen, nan_at, nan_seen, number_written, plus_seen}
use Rattle.view_json.proofs.value.push_float.Goals as goal

pub float_from_bits-number : goal.float_from_bits-number
float_from_bits-number g c =
    T_from_false _ (nan_bits_above binary64 c.args.bits ∙ le-ltb _ _ c.if-bits-gt-INFINITY.false)

pub returns-then-bits-gt-INFINITY-clause-seen : goal.returns-then-bits-gt-INFINITY-clause-seen
returns-then-bits-gt-INFINITY-clause-seen g c =
    written_seen c.string.result c.args.out.now.tokens c.string.new.self.tokens
    (string (codes "NaN")) (float_seen (from_bits binary64 c.args.bits))
    (nan_seen (from_bits binary64 c.args.bits)
    (nan_at c.args.bits ∙ lt-ltb _ _ c.if-bits-gt-INFINITY.true))
    c.string.ensures.ok

pub returns-then-is_finite-clause-seen : goal.returns-then-is_finite-clause-seen
returns-then-is_finite-clause-seen g c =
    number_written c.float.result c.args.out.now.tokens c.float.new.self.tokens
    (from_bits binary64 c.args.bits)
    (sym c.is_finite.ensures.value ∙ c.if-is_finite.true) c.float.ensures.plain

pub returns-then-is_sign_negative-clause-seen : goal.returns-then-is_sign_negative-clause-seen
returns-then-is_sign_negative-clause-seen g c =
    written_seen c.string-then-is_sign_negative.result c.args.out.now.tokens
    c.string-then-is_sign_negative.new.self.tokens
    (string (codes "-Infinity")) (float_seen (from_bits binary64 c.args.bits))
    (minus_seen (from_bits binary64 c.args.bits)
    (nan_at c.args.bits ∙ le-ltb _ _ c.if-bits-gt-INFINITY.false)
    (sym c.is_finite.ensures.value ∙ c.if-is_finite.false)
    (sym c.is_sign_negative.ensures ∙ c.if-is_sign_negative.true))
    c.string-then-is_sign_negative.ensures.ok

pub returns-clause-seen : goal.returns-clause-seen
returns-clause-seen g c =
    written_seen c.string-2.result c.args.out.now.tokens c.string-2.new.self.tokens
    (string (codes "Infinity")) (float_seen (from_bits binary64 c.args.bits))
    (plus_seen (from_bits binary64 c.args.bits)
    (nan_at c.args.bits ∙ le-ltb _ _ c.if-bits-gt-INFINITY.false)
    (sym c.is_finite.ensures.value ∙ c.if-is_finite.false)
    (sym c.is_sign_negative.ensures ∙ c.if-is_sign_negative.false))
    c.string-2.ensures.ok
