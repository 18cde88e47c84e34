-- A number that is counted, as Prometheus reads it. (Prometheus, "Exposition formats", text format
-- 0.0.4)
use Rattle.std.specs.Prelude.{ℕ, List, [], ◌∷◌, ◌++◌, codes, decimal}

-- what a metric is: a line, with a line feed (10) at its end
unfoldable pub help_text : List ℕ → List ℕ → List ℕ
help_text name help = codes "# HELP " ++ name ++ codes " " ++ help ++ 10 ∷ []

-- its type
unfoldable pub type_text : List ℕ → List ℕ → List ℕ
type_text name type = codes "# TYPE " ++ name ++ codes " " ++ type ++ 10 ∷ []

-- one of its numbers, where it has this name or these labels
unfoldable pub sample_text : List ℕ → ℕ → List ℕ
sample_text name n = name ++ codes " " ++ decimal n ++ 10 ∷ []

-- a metric of one number
unfoldable pub metric_text : List ℕ → List ℕ → List ℕ → ℕ → List ℕ
metric_text name help type n = help_text name help ++ type_text name type ++ sample_text name n
