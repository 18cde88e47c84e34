use Rattle.std.proofs.Common.{◌++◌, ◌∙◌, ap, append-nil, encode_utf8_all, length, string_bytes, sym}
use Rattle.std.specs.Str.Iter.{chars_rest}
use Rattle.page_text.specs.Written.{char_markup, text_markup}
use Rattle.page_text.proofs.Writing.{all_left, front_yielded, no_bytes, none_left, of_error}
use Rattle.page_text.proofs.Writing.{one_left, one_written}
use Rattle.page_text.proofs.Reading.{reads_text}
use Rattle.page_text.proofs.write.write_text.Goals as goal

pub returns-in_err-push_char-clause-read_back : goal.returns-in_err-push_char-clause-read_back
returns-in_err-push_char-clause-read_back g c = λ place after. reads_text place _ after

pub returns-clause-read_back : goal.returns-clause-read_back
returns-clause-read_back g c = λ place after. reads_text place _ after

pub returns-in_err-push_char-clause-written : goal.returns-in_err-push_char-clause-written
returns-in_err-push_char-clause-written g c =
    let inv = c.loop-ch.invariant in
    of_error _ c.from_residual.result c.from_residual.ensures.0 (
      length c.loop-ch.yielded,
      c.in_err-push_char.ensures ∙ inv.written
          ∙ ap (λ x. string_bytes c.args.out.now ++ encode_utf8_all (text_markup x))
          (front_yielded c.args.text.now c.loop-ch.yielded _ inv.left),
    )

pub returns-clause-written : goal.returns-clause-written
returns-clause-written g c =
    let inv = c.loop-ch.invariant in
    inv.written
    ∙ ap (λ x. string_bytes c.args.out.now ++ encode_utf8_all (text_markup x))
    (none_left c.args.text.now c.loop-ch.yielded _ inv.left
    (no_bytes _ c.in-None.ensures.steps.0.0))

pub loop-ch-init : goal.loop-ch-init
loop-ch-init g c = record {
  written = sym (append-nil (string_bytes c.args.out.now));
  left =
      all_left c.args.text.now _ c.utf8.text
      (ap chars_rest c.into_iter-ch-iterator.ensures.into_iter_gives
      ∙ c.chars-ch-items.ensures.rest);
}

pub loop-ch-preserved : goal.loop-ch-preserved
loop-ch-preserved g c =
    let inv = c.loop-ch.invariant in
    record {
      written =
          c.in_ok-push_char.ensures
          ∙ ap (λ x. x ++ encode_utf8_all (char_markup c.in-Some.ch)) inv.written
          ∙ one_written (string_bytes c.args.out.now) c.loop-ch.yielded c.in-Some.ch;
      left =
          one_left c.args.text.now c.loop-ch.yielded _ _ c.in-Some.ch inv.left
          c.in-Some.ensures.steps.0;
    }
