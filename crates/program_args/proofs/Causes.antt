-- Why words ask for no run.
use Rattle.std.proofs.Common.{◌≡◌, ◌⊎◌, List, sym, subst, inl, inr}
use Rattle.std.specs.Prelude.{Err, IfErr, IsErrAnd, Ok, Result, String}
use Rattle.clap.specs.Words.{App, HasKind, IsAmong, kind_of}
use Rattle.clap.specs.declared.error.Error.{Error}
use Rattle.clap.specs.declared.error.ErrorKind.{ErrorKind}
use Rattle.clap.specs.declared.error.ErrorKind.TheVariants as kinds
use Rattle.program_args.specs.Faults.{fault_at, fault_of_error}
use Rattle.program_args.specs.Words.{IsCause, word_faults}
use Rattle.program_args.specs.declared.fault.ArgFault.{ArgFault}

cause-at : {A : Type 0} (app : App) (words : List (String A)) (k : ErrorKind) (e : Error)
    → (k ≡ kinds.OutOfMemory) ⊎ IsAmong k (word_faults app words) → IsCause app words (fault_at k e)
cause-at app words kinds.DisplayHelp e (inl memory) = cc
cause-at app words kinds.DisplayHelp e (inr among) = among
cause-at app words kinds.DisplayVersion e (inl memory) = cc
cause-at app words kinds.DisplayVersion e (inr among) = among
cause-at app words kinds.OutOfMemory e h = tt
cause-at app words k e (inl memory) = cc
cause-at app words k e (inr among) = (k, among, λ same. cc, λ same. cc)

-- A fault that clap's error is turned into has a cause in the words.
pub cause-of : {A T : Type 0} (app : App) (words : List (String A)) (e : Error)
    (r : Result T ArgFault)
    → HasKind (word_faults app words) e → IsErrAnd r (λ f. f ≡ fault_of_error e)
    → IfErr r (IsCause app words)
cause-of app words e (Ok t) h is = tt
cause-of app words e (Err f) h is =
    subst (IsCause app words) (sym is) (cause-at app words (kind_of e) e h)
