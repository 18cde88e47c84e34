use Rattle.std.proofs.Common.{[], refl, arith, codes, None, replicate, inl, inr}
use Rattle.std.proofs.lemmas.List.Elements.{All-nil}
use Rattle.httparse.specs.Grammar.{lf, ResponseHead}
use Rattle.httparse.proofs.OnLiterals.{httparse_on_literals}
use Rattle.otlp_http.specs.Heads.{IsInterim}
use Rattle.worked_sdk.specs.Replied.{usual, continue}
use Rattle.worked_sdk.proofs.Heads.{interim, head_is, head_text, all_equal, no_line, no_x}
use Rattle.worked_sdk.proofs.replies.none.Goals as goal

abbrev no_content : ResponseHead
no_content = record {
  blank = [];
  minor = 1;
  digits = codes "204";
  reason = None;
  line_end = lf;
  fields = [];
  last = lf;
}

pub returns-clause-cut : goal.returns-clause-cut
unfolding httparse_on_literals
returns-clause-cut c = record {
  interims = [];
  text = codes "HTTP/1.1 2";
  comes = record { each = All-nil (IsInterim usual); few = omega arith; taken = refl };
  cause =
      inl (
        refl,
        (
          no_line (codes "HTTP/1.1 2") refl,
          (codes "04\n\n", no_content, (head_is no_content refl, refl)),
        ),
        omega arith,
      );
}

pub returns-clause-bad : goal.returns-clause-bad
returns-clause-bad c = record {
  interims = [];
  text = codes "x";
  comes = record { each = All-nil (IsInterim usual); few = omega arith; taken = refl };
  cause = inl (no_x, omega arith);
}

pub returns-clause-large : goal.returns-clause-large
unfolding httparse_on_literals
returns-clause-large c = record {
  interims = [];
  text = codes "HTTP";
  comes = record { each = All-nil _; few = omega arith; taken = refl };
  cause =
      inl (
        omega arith,
        inl (
          (
            no_line (codes "HTTP") refl,
            (codes "/1.1 204\n\n", no_content, (head_is no_content refl, refl)),
          ),
          refl,
        ),
      );
}

pub returns-clause-interims : goal.returns-clause-interims
unfolding httparse_on_literals
returns-clause-interims c =
    let one = head_text usual interim refl refl refl in
    record {
      interims = replicate 16 interim;
      text = continue;
      comes = record {
        each = all_equal (IsInterim usual) interim (one, (omega arith, omega arith)) 16;
        few = omega arith;
        taken = refl;
      };
      cause = inr (interim, one, inl (refl, (omega arith, omega arith)));
    }
