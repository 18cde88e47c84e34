-- A line that sets the batch processor's sizes has some that a queue may have.
use Rattle.std.proofs.Common.{ℕ, ◌^◌, ◌<◌, ◌≤◌, Bool, true, false, List, [], ◌∷◌, Option, Some}
use Rattle.std.proofs.Common.{None, inl, inr, rules, codes}
use Rattle.std.specs.Prelude.{◌==◌, ◌&&◌, nat_le, if◌then◌else◌, option_map, bytes_eq}
use Rattle.std.specs.Option.{IfSome}
use Rattle.std.specs.List.{slice_split}
use Rattle.std.proofs.lemmas.Bool.{cases_Bool}
use Rattle.model_desk.specs.Desks.{DeskConfig}
use Rattle.span_ring.specs.SpanRing.{IsRingSize}
use Rattle.span_ring.specs.declared.ring.TheConstants.{MAX_QUEUE}
use Rattle.text_words.specs.Words.{◌>>=◌, each_of, number_below, hex_word, text_of}
use Rattle.trace_script.specs.Values.{pair_of}
use Rattle.trace_script.specs.Outcomes.{outcome_of_words}
use Rattle.trace_script.specs.Steps.{step_of}
use Rattle.trace_script.specs.Lines.{Line, words, sampler, limits, desk, max_body, resource}
use Rattle.trace_script.specs.Lines.{outcome, step, sampler_of, limits_of, size_to, desk_of}
use Rattle.trace_script.specs.Lines.{words_line, sampler_line, limits_line, desk_line}
use Rattle.trace_script.specs.Lines.{max_body_line, resource_line, scope_line, scope_line_of}
use Rattle.trace_script.specs.Lines.{scope_attribute_line, scope_attribute_line_of, entry, entry_of}
use Rattle.trace_script.specs.Lines.{line_of}

abbrev pub IsSized : DeskConfig → Type 0
IsSized c = IsRingSize c.queue c.batch

abbrev pub IsSizedLine : Line → Type 0
IsSizedLine (desk c) = IsSized c
IsSizedLine _ = Unit {0}

-- ---- what holds of what is given, if something is

mapped : {X Y : Type 0} (P : Y → Type 0) (make : X → Y) (o : Option X) → ((x : X) → P (make x))
    → IfSome (option_map make o) P
mapped P make None h = tt
mapped P make (Some x) h = h x

mapped_if : {X Y : Type 0} (P : Y → Type 0) (Q : X → Type 0) (make : X → Y) (o : Option X)
    → IfSome o Q → ((x : X) → Q x → P (make x)) → IfSome (option_map make o) P
mapped_if P Q make None q h = tt
mapped_if P Q make (Some x) q h = h x q

bound : {X Y : Type 0} (P : Y → Type 0) (o : Option X) (f : X → Option Y)
    → ((x : X) → IfSome (f x) P) → IfSome (o >>= f) P
bound P None f h = tt
bound P (Some x) f h = h x

bound_if : {X Y : Type 0} (P : Y → Type 0) (Q : X → Type 0) (o : Option X) (f : X → Option Y)
    → IfSome o Q → ((x : X) → Q x → IfSome (f x) P) → IfSome (o >>= f) P
bound_if P Q None f q h = tt
bound_if P Q (Some x) f q h = h x q

either : {Y : Type 0} (P : Y → Type 0) (b : Bool) (x y : Option Y) → IfSome x P → IfSome y P
    → IfSome (if b then x else y) P
either P true x y p q = p
either P false x y p q = q

-- ---- sizes

in_range : (greatest n : ℕ)
    → IfSome (if nat_le 1 n && nat_le n greatest then Some n else None)
    (λ m. (0 < m) × (m ≤ greatest))
in_range greatest n = elim (cases_Bool (nat_le 1 n && nat_le n greatest)) [
  | inl e ↦ rw e (search rules, search rules)
  | inr e ↦ rw e tt
]

sized : (greatest : ℕ) (word : List ℕ)
    → IfSome (size_to greatest word) (λ m. (0 < m) × (m ≤ greatest))
unfolding size_to
sized greatest word = bound _ (number_below (2 ^ 32) word) _ (in_range greatest)

sized_desk : (queue batch delay : List ℕ) → IfSome (desk_of queue batch delay) IsSized
unfolding desk_of
sized_desk queue batch delay =
    bound_if _ _ (size_to MAX_QUEUE queue) _ (sized MAX_QUEUE queue)
    (λ q large. bound_if _ _ (size_to q batch) _ (sized q batch)
    (λ b small. bound _ (number_below (2 ^ 32) delay) _
    (λ d. record { positive = small.0; fits = small.1; limited = large.1 })))

-- ---- lines

words_sized : (arguments : List (List ℕ)) → IfSome (words_line arguments) IsSizedLine
unfolding words_line
words_sized [] = tt
words_sized (w ∷ ws) = mapped _ words (each_of hex_word (w ∷ ws)) (λ _. tt)

sampler_sized : (arguments : List (List ℕ)) → IfSome (sampler_line arguments) IsSizedLine
unfolding sampler_line
sampler_sized (name ∷ []) = mapped _ sampler (sampler_of name) (λ _. tt)
sampler_sized [] = tt
sampler_sized (_ ∷ _ ∷ _) = tt

limits_sized : (arguments : List (List ℕ)) → IfSome (limits_line arguments) IsSizedLine
unfolding limits_line
limits_sized (a ∷ e ∷ l ∷ ea ∷ la ∷ v ∷ []) = mapped _ limits (limits_of a e l ea la v) (λ _. tt)
limits_sized [] = tt
limits_sized (_ ∷ []) = tt
limits_sized (_ ∷ _ ∷ []) = tt
limits_sized (_ ∷ _ ∷ _ ∷ []) = tt
limits_sized (_ ∷ _ ∷ _ ∷ _ ∷ []) = tt
limits_sized (_ ∷ _ ∷ _ ∷ _ ∷ _ ∷ []) = tt
limits_sized (_ ∷ _ ∷ _ ∷ _ ∷ _ ∷ _ ∷ _ ∷ _) = tt

desk_sized : (arguments : List (List ℕ)) → IfSome (desk_line arguments) IsSizedLine
unfolding desk_line
desk_sized (queue ∷ batch ∷ delay ∷ []) =
    mapped_if _ _ desk (desk_of queue batch delay) (sized_desk queue batch delay) (λ c q. q)
desk_sized [] = tt
desk_sized (_ ∷ []) = tt
desk_sized (_ ∷ _ ∷ []) = tt
desk_sized (_ ∷ _ ∷ _ ∷ _ ∷ _) = tt

max_body_sized : (arguments : List (List ℕ)) → IfSome (max_body_line arguments) IsSizedLine
unfolding max_body_line
max_body_sized (greatest ∷ []) = mapped _ max_body (number_below (2 ^ 64) greatest) (λ _. tt)
max_body_sized [] = tt
max_body_sized (_ ∷ _ ∷ _) = tt

resource_sized : (arguments : List (List ℕ)) → IfSome (resource_line arguments) IsSizedLine
unfolding resource_line
resource_sized (key ∷ value ∷ []) = mapped _ resource (pair_of key value) (λ _. tt)
resource_sized [] = tt
resource_sized (_ ∷ []) = tt
resource_sized (_ ∷ _ ∷ _ ∷ _) = tt

scope_sized : (arguments : List (List ℕ)) → IfSome (scope_line arguments) IsSizedLine
unfolding scope_line scope_line_of
scope_sized (number ∷ name ∷ version ∷ schema ∷ []) =
    bound _ (number_below (2 ^ 32) number) _
    (λ n. bound _ (text_of name) _
    (λ t. bound _ (text_of version) _ (λ v. bound _ (text_of schema) _ (λ s. tt))))
scope_sized [] = tt
scope_sized (_ ∷ []) = tt
scope_sized (_ ∷ _ ∷ []) = tt
scope_sized (_ ∷ _ ∷ _ ∷ []) = tt
scope_sized (_ ∷ _ ∷ _ ∷ _ ∷ _ ∷ _) = tt

scope_attribute_sized : (arguments : List (List ℕ))
    → IfSome (scope_attribute_line arguments) IsSizedLine
unfolding scope_attribute_line scope_attribute_line_of
scope_attribute_sized (number ∷ key ∷ value ∷ []) =
    bound _ (number_below (2 ^ 32) number) _ (λ n. bound _ (pair_of key value) _ (λ p. tt))
scope_attribute_sized [] = tt
scope_attribute_sized (_ ∷ []) = tt
scope_attribute_sized (_ ∷ _ ∷ []) = tt
scope_attribute_sized (_ ∷ _ ∷ _ ∷ _ ∷ _) = tt

sized_entry : (name : List ℕ) (arguments : List (List ℕ))
    → IfSome (entry name arguments) IsSizedLine
unfolding entry
sized_entry name arguments =
    either _ (bytes_eq name (codes "words")) _ _ (words_sized arguments)
    (either _ (bytes_eq name (codes "sampler")) _ _ (sampler_sized arguments)
    (either _ (bytes_eq name (codes "limits")) _ _ (limits_sized arguments)
    (either _ (bytes_eq name (codes "desk")) _ _ (desk_sized arguments)
    (either _ (bytes_eq name (codes "max")) _ _ (max_body_sized arguments)
    (either _ (bytes_eq name (codes "resource")) _ _ (resource_sized arguments)
    (either _ (bytes_eq name (codes "scope")) _ _ (scope_sized arguments)
    (either _ (bytes_eq name (codes "sattr")) _ _ (scope_attribute_sized arguments)
    (either _ (bytes_eq name (codes "answer")) _ _
    (mapped _ outcome (outcome_of_words arguments) (λ _. tt))
    (mapped _ step (step_of name arguments) (λ _. tt))))))))))

sized_words : (ws : List (List ℕ)) → IfSome (entry_of ws) IsSizedLine
sized_words [] = tt
sized_words (name ∷ arguments) = sized_entry name arguments

-- A line that is read and sets the queue's sizes sets sizes that a queue may have.
pub sized_line : (bytes : List ℕ) → IfSome (line_of bytes) IsSizedLine
unfolding line_of
sized_line bytes = sized_words (slice_split (λ b. b == 32) bytes)
