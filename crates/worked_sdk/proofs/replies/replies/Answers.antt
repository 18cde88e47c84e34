use Rattle.std.proofs.Common.{[], ◌∷◌, refl, arith, codes, None}
use Rattle.std.proofs.lemmas.List.Elements.{All-cons, All-nil}
use Rattle.httparse.specs.Grammar.{lf, ResponseHead}
use Rattle.httparse.proofs.OnLiterals.{httparse_on_literals}
use Rattle.otlp_http.specs.Heads.{IsInterim}
use Rattle.worked_sdk.specs.Replied.{usual, two_rejected}
use Rattle.worked_sdk.proofs.Heads.{field, answered, interim, head_text, replied}
use Rattle.worked_sdk.proofs.replies.replies.Goals as goal

abbrev ok : ResponseHead
ok = answered (codes "200") (codes "OK") (field (codes "Content-Length") (codes " 7"))

abbrev busy : ResponseHead
busy = answered (codes "503") (codes "Busy") (field (codes "Retry-After") (codes " 7"))

abbrev no_content : ResponseHead
no_content = record {
  blank = [];
  minor = 0;
  digits = codes "204";
  reason = None;
  line_end = lf;
  fields = [];
  last = lf;
}

pub returns-clause-sized : goal.returns-clause-sized
unfolding httparse_on_literals
returns-clause-sized c =
    replied [] ok two_rejected
    (All-nil (IsInterim usual)) refl refl refl refl refl refl refl refl refl
    (refl, refl, omega arith)

pub returns-clause-between : goal.returns-clause-between
unfolding httparse_on_literals
returns-clause-between c =
    let between =
    All-cons (IsInterim usual) interim []
    (head_text usual interim refl refl refl, (omega arith, omega arith))
    (All-nil (IsInterim usual)) in
    replied (interim ∷ []) ok two_rejected between refl refl refl refl refl refl refl refl refl
    (refl, refl, omega arith)

pub returns-clause-to_the_end : goal.returns-clause-to_the_end
unfolding httparse_on_literals
returns-clause-to_the_end c =
    replied [] busy (codes "wait")
    (All-nil (IsInterim usual)) refl refl refl refl refl refl refl refl refl
    (refl, refl, omega arith)

pub returns-clause-without_body : goal.returns-clause-without_body
unfolding httparse_on_literals
returns-clause-without_body c =
    replied [] no_content []
    (All-nil (IsInterim usual)) refl refl refl refl refl refl refl refl refl (refl, refl)

pub returns-clause-cut : goal.returns-clause-cut
unfolding httparse_on_literals
returns-clause-cut c =
    replied [] ok (codes "wait")
    (All-nil (IsInterim usual)) refl refl refl refl refl refl refl refl refl
    (refl, omega arith, omega arith)
