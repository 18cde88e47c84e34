-- How many spans a body has that was read.
use Rattle.std.proofs.Common.{◌≡◌, ◌∙◌, ap, refl, sym, List, [], ◌∷◌, ℕ, Bool, ◌&&◌, length, map}
use Rattle.std.specs.List.{list_all}
use Rattle.std.proofs.lemmas.List.{length-map}
use Rattle.model_body.specs.Names.{spans_in}
use Rattle.model_message.specs.Messages.{Triple, body_meaning, meaning, triples}
use Rattle.model_message.specs.Reading.{Reads}
use Rattle.model_message.specs.Tables
use Rattle.model_message.specs.Tables.{Message}

-- A list of the spans of the request that a body means is as long as that of the body's spans.
pub counted : {T : Type 0} (view : T → Triple) (body : List ℕ) (request : Message Tables.request)
    (found : List T)
    → Reads (meaning Tables.request body) request → map view found ≡ triples request
    → length found ≡ length (spans_in body)
unfolding spans_in body_meaning
counted view body request found reads listed =
    sym (length-map found view) ∙ ap length listed ∙ ap length (ap triples (sym reads.1))

-- A test of the image of each item is a test of each item of the mapped list.
all_of_images : {T U : Type 0} (f : T → U) (test : U → Bool) (xs : List T)
    → list_all (λ x. test (f x)) xs ≡ list_all test (map f xs)
all_of_images f test [] = refl
all_of_images f test (x ∷ xs) = ap (λ t. test (f x) && t) (all_of_images f test xs)

-- Each span of such a list passes a test exactly if each of the body's spans does.
pub all_pass : {T : Type 0} (view : T → Triple) (test : Triple → Bool) (body : List ℕ)
    (request : Message Tables.request) (found : List T)
    → Reads (meaning Tables.request body) request → map view found ≡ triples request
    → list_all (λ x. test (view x)) found ≡ list_all test (spans_in body)
unfolding spans_in body_meaning
all_pass view test body request found reads listed =
    all_of_images view test found ∙ ap (list_all test) (listed ∙ ap triples (sym reads.1))
