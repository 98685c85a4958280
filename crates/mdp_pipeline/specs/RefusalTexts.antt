-- The lines of refused datagrams, feed by feed.
use Rattle.std.specs.Prelude.{ℕ, List, [], ◌++◌, Option, Some, None, Result, Ok, Err, refl}
use Rattle.std.specs.Coded.{Coded, code_by, coded×, coded_ℕ, coded_list}
use Rattle.mdp_sbe.specs.declared.refusal.Refusal.{Refusal}
use Rattle.mdp_templates.specs.declared.feed.Feed.{Feed}
use Rattle.mdp_templates.specs.declared.feed.Feed.TheVariants as feeds
use Rattle.mdp_print.specs.Texts.{refusal_line}
use Rattle.mdp_pipeline.specs.declared.refused_lines.RefusalWord.{RefusalWord}

-- the line of a refused datagram that is kept as a word
abbrev pub word_text : RefusalWord → List ℕ
word_text word = refusal_line word.feed word.line word.refusal

pub record RefusalTexts : Type 0 where
  pub a : List ℕ
  pub b : List ℕ
  pub s : List ℕ

abbrev pub refusal_texts_code : Coded RefusalTexts
refusal_texts_code =
    code_by (List ℕ × (List ℕ × List ℕ)) (coded× (coded_list coded_ℕ)
    (coded× (coded_list coded_ℕ) (coded_list coded_ℕ)))
    (λ t. (t.a, (t.b, t.s))) (λ t. record { a = t.0; b = t.1.0; s = t.1.1 }) (λ _. refl)

abbrev pub no_refusals : RefusalTexts
no_refusals = record { a = []; b = []; s = [] }

-- one more on a feed
abbrev pub with_refusal : Feed → ℕ → Refusal → RefusalTexts → RefusalTexts
with_refusal feeds.A line refusal texts =
    record { a = texts.a ++ refusal_line feeds.A line refusal; b = texts.b; s = texts.s }
with_refusal feeds.B line refusal texts =
    record { a = texts.a; b = texts.b ++ refusal_line feeds.B line refusal; s = texts.s }
with_refusal feeds.S line refusal texts =
    record { a = texts.a; b = texts.b; s = texts.s ++ refusal_line feeds.S line refusal }

-- where there is a refusal
abbrev pub with_told : Feed → ℕ → Option Refusal → RefusalTexts → RefusalTexts
with_told feed line None texts = texts
with_told feed line (Some refusal) texts = with_refusal feed line refusal texts

-- the texts of the three feeds, unless one is missing
abbrev pub all_refused : {E : Type 0} → Result (List ℕ) E → Result (List ℕ) E → Result (List ℕ) E
    → Result RefusalTexts E
all_refused (Ok a) (Ok b) (Ok s) = Ok (record { a = a; b = b; s = s })
all_refused (Ok a) (Ok b) (Err missing) = Err missing
all_refused (Ok a) (Err missing) s = Err missing
all_refused (Err missing) b s = Err missing
