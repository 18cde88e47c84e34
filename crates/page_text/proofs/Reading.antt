-- What is read of a text that was written.
use Rattle.std.proofs.Common.{◌≡◌, ℕ, true, false, List, [], ◌∷◌, ◌++◌, Option, Some, None, refl}
use Rattle.std.proofs.Common.{◌∙◌, ap}
use Rattle.std.proofs.Common.{map, inl, inr, append_assoc, eqb, eqb-true}
use Rattle.std.proofs.lemmas.Bool.{cases_Bool}
use Rattle.std.specs.Prelude.{option_map}
use Rattle.page_text.specs.Pages.{Place, Content, DoubleQuoted, SingleQuoted, read_from, read_text}
use Rattle.page_text.specs.Written.{char_markup, shown_char, text_markup}

-- one character in front of what is read after it
abbrev pub after_char : ℕ → Option (List ℕ) → Option (List ℕ)
after_char c read = option_map (λ cs. c ∷ cs) read

-- a character that was written is read, and then what comes after it
abbrev ReadsChar : Place → List ℕ → ℕ → Type 0
ReadsChar place after c =
    read_from place None (char_markup c ++ after)
    ≡ after_char (shown_char c) (read_from place None after)

reads_at : (place : Place) (after : List ℕ) (c mark : ℕ) → ReadsChar place after mark
    → eqb c mark ≡ true → ReadsChar place after c
reads_at place after c mark known same = rw (eqb-true c mark same) known

reads_nul : (place : Place) (after : List ℕ) → ReadsChar place after 0
unfolding char_markup
reads_nul Content after = refl
reads_nul DoubleQuoted after = refl
reads_nul SingleQuoted after = refl

reads_plain : (place : Place) (c : ℕ) (after : List ℕ) → eqb c 38 ≡ false → eqb c 60 ≡ false
    → eqb c 62 ≡ false → eqb c 34 ≡ false → eqb c 39 ≡ false → eqb c 13 ≡ false → eqb c 0 ≡ false
    → ReadsChar place after c
unfolding char_markup
reads_plain Content c after amp lt gt quote apostrophe return nul =
    rw (amp, lt, gt, quote, apostrophe, return, nul) (rw (amp, lt, return, nul) refl)
reads_plain DoubleQuoted c after amp lt gt quote apostrophe return nul =
    rw (amp, lt, gt, quote, apostrophe, return, nul) (rw (amp, quote, return, nul) refl)
reads_plain SingleQuoted c after amp lt gt quote apostrophe return nul =
    rw (amp, lt, gt, quote, apostrophe, return, nul) (rw (amp, apostrophe, return, nul) refl)

reads_char : (place : Place) (c : ℕ) (after : List ℕ) → ReadsChar place after c
unfolding char_markup
reads_char place c after = elim (cases_Bool (eqb c 38)) [
  | inl h ↦ reads_at place after c 38 refl h
  | inr amp ↦ elim (cases_Bool (eqb c 60)) [
    | inl h ↦ reads_at place after c 60 refl h
    | inr lt ↦ elim (cases_Bool (eqb c 62)) [
      | inl h ↦ reads_at place after c 62 refl h
      | inr gt ↦ elim (cases_Bool (eqb c 34)) [
        | inl h ↦ reads_at place after c 34 refl h
        | inr quote ↦ elim (cases_Bool (eqb c 39)) [
          | inl h ↦ reads_at place after c 39 refl h
          | inr apostrophe ↦ elim (cases_Bool (eqb c 13)) [
            | inl h ↦ reads_at place after c 13 refl h
            | inr return ↦ elim (cases_Bool (eqb c 0)) [
              | inl h ↦ reads_at place after c 0 (reads_nul place after) h
              | inr nul ↦ reads_plain place c after amp lt gt quote apostrophe return nul
            ]
          ]
        ]
      ]
    ]
  ]
]

-- a text in front of what is read after it
abbrev pub after_text : List ℕ → Option (List ℕ) → Option (List ℕ)
after_text text read = option_map (λ cs. text ++ cs) read

after_none : (read : Option (List ℕ)) → read ≡ after_text [] read
after_none None = refl
after_none (Some cs) = refl

after_more : (c : ℕ) (text : List ℕ) (read : Option (List ℕ))
    → after_char c (after_text text read) ≡ after_text (c ∷ text) read
after_more c text None = refl
after_more c text (Some cs) = refl

reads_chars : (place : Place) (text after : List ℕ)
    → read_from place None (text_markup text ++ after)
    ≡ after_text (map shown_char text) (read_from place None after)
reads_chars place [] after = after_none (read_from place None after)
reads_chars place (c ∷ text) after =
    ap (read_from place None) (append_assoc (char_markup c) (text_markup text) after)
    ∙ reads_char place c (text_markup text ++ after)
    ∙ ap (after_char (shown_char c)) (reads_chars place text after)
    ∙ after_more (shown_char c) (map shown_char text) (read_from place None after)

-- A text that was written as markup is read back, and then what comes after it.
pub reads_text : (place : Place) (text after : List ℕ)
    → read_text place (text_markup text ++ after)
    ≡ after_text (map shown_char text) (read_text place after)
unfolding read_text
reads_text place text after = reads_chars place text after
