use Rattle.law_export.proofs.PostsAgree.{one_post}
use Rattle.law_export.proofs.PostFaultsAgree.{one_post_fault}
use Rattle.law_export.proofs.requests.bytes_mean_one_request.Goals as goal

pub returns : goal.returns
returns c = record { post = one_post; fault = one_post_fault }
