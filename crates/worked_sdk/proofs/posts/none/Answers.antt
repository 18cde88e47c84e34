use Rattle.std.proofs.Common.{[], refl, arith, codes, inl}
use Rattle.httparse.specs.Grammar.{lf, RequestHead}
use Rattle.httparse.proofs.OnLiterals.{httparse_on_literals}
use Rattle.worked_sdk.specs.Replied.{usual}
use Rattle.worked_sdk.proofs.Heads.{field}
use Rattle.worked_sdk.proofs.RequestHeads.{no_line, put, request_is, without_body}
use Rattle.worked_sdk.proofs.posts.none.Goals as goal

abbrev short : RequestHead
short = record {
  blank = [];
  method = codes "PUT";
  target = codes "/";
  minor = 1;
  line_end = lf;
  fields = [];
  last = lf;
}

abbrev sized : RequestHead
sized = put (field (codes "Content-Length") (codes " 3"))

abbrev coded : RequestHead
coded = put (field (codes "Transfer-Encoding") (codes " gzip"))

pub returns-clause-cut : goal.returns-clause-cut
unfolding httparse_on_literals
returns-clause-cut c = record {
  text = codes "PUT / HTT";
  taken = refl;
  cause =
      inl (
        refl,
        (
          no_line (codes "PUT / HTT") refl,
          inl (codes "P/1.1\n\n", short, (request_is short refl, refl)),
        ),
        omega arith,
      );
}

pub returns-clause-large : goal.returns-clause-large
unfolding httparse_on_literals
returns-clause-large c = record {
  text = codes "PUT ";
  taken = refl;
  cause =
      inl (
        omega arith,
        inl (
          (
            no_line (codes "PUT ") refl,
            inl (codes "/ HTTP/1.1\n\n", short, (request_is short refl, refl)),
          ),
          refl,
        ),
      );
}

pub returns-clause-cut_body : goal.returns-clause-cut_body
unfolding httparse_on_literals
returns-clause-cut_body c =
    without_body usual sized (codes "ab") refl refl refl refl refl (refl, omega arith, omega arith)

pub returns-clause-large_body : goal.returns-clause-large_body
unfolding httparse_on_literals
returns-clause-large_body c =
    without_body (record usual { body = 2 }) sized [] refl refl refl refl refl (refl, omega arith)

pub returns-clause-coded : goal.returns-clause-coded
unfolding httparse_on_literals
returns-clause-coded c = without_body usual coded [] refl refl refl refl refl (refl, refl)
