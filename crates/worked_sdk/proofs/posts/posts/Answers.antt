use Rattle.std.proofs.Common.{[], refl, arith, codes}
use Rattle.httparse.specs.Grammar.{lf, RequestHead}
use Rattle.httparse.proofs.OnLiterals.{httparse_on_literals}
use Rattle.worked_sdk.proofs.Heads.{field}
use Rattle.worked_sdk.proofs.RequestHeads.{one_field, posted, put}
use Rattle.worked_sdk.proofs.posts.posts.Goals as goal

abbrev sized : RequestHead
sized = put (field (codes "Content-Length") (codes " 3"))

abbrev short : RequestHead
short = record {
  blank = [];
  method = codes "GET";
  target = codes "/x?y";
  minor = 0;
  line_end = lf;
  fields = [];
  last = lf;
}

pub returns-clause-sized : goal.returns-clause-sized
unfolding httparse_on_literals
returns-clause-sized c =
    posted sized (codes "abc") refl refl refl refl refl refl refl
    (one_field (codes "Content-Length") (codes "3")) (refl, refl, omega arith)

pub returns-clause-without_body : goal.returns-clause-without_body
unfolding httparse_on_literals
returns-clause-without_body c =
    posted short [] refl refl refl refl refl refl refl
    (record { values = λ name. refl; names = omega arith; count = omega arith }) (refl, refl)
