-- What of a text went out, piece by piece.
use Rattle.std.proofs.Common.{◌≡◌, ℕ, ◌+◌, ◌<◌, ◌≤◌, List, [], ◌∷◌, ◌++◌, length, take, drop, get_or, refl, sym, ap, subst, ◌∙◌, append_assoc}
use Rattle.std.specs.List.{flat_map}
use Rattle.std.proofs.Math.Seq.{take-append_seam}
use Rattle.std.proofs.lemmas.List.{append-nil, at_drop_all, at_drop_more, take-append-drop}
use Rattle.std.proofs.lemmas.List.Concat.{flat_map-append}
use Rattle.mdp_pipeline.specs.declared.refused_lines.RefusalWord.{RefusalWord}
use Rattle.mdp_pipeline.specs.RefusalTexts.{word_text}
use Rattle.mdp_pipeline.specs.Sending.{SendsFront}

-- ---- one write after another

-- nothing went out
pub sends_nothing : (text start : List ℕ) → SendsFront text start start text
sends_nothing text start = record { sent = []; taken_is = sym (append-nil start); whole = refl }

-- all of it did
pub sends_all : (text start taken : List ℕ) → taken ≡ start ++ text → SendsFront text start taken []
sends_all text start taken went = record { sent = text; taken_is = went; whole = sym (append-nil text) }

-- so many bytes of it did
pub sends_some : (text start taken : List ℕ) (n : ℕ) → taken ≡ start ++ take n text → SendsFront text start taken (drop n text)
sends_some text start taken n went = record { sent = take n text; taken_is = went; whole = sym (take-append-drop n text) }

-- and then a front of what was left
pub sends_on : (text start taken taken' left rest : List ℕ) → SendsFront text start taken left → SendsFront left taken taken' rest → SendsFront text start taken' rest
sends_on text start taken taken' left rest first next = record {
  sent = first.sent ++ next.sent;
  taken_is = next.taken_is ∙ ap (λ (t : List ℕ). t ++ next.sent) first.taken_is ∙ append_assoc start first.sent next.sent;
  whole = first.whole ∙ ap (λ (t : List ℕ). first.sent ++ t) next.whole ∙ sym (append_assoc first.sent next.sent rest);
}

-- with more text behind it
sends_before : (text more start taken rest : List ℕ) → SendsFront text start taken rest → SendsFront (text ++ more) start taken (rest ++ more)
sends_before text more start taken rest sends = record {
  sent = sends.sent;
  taken_is = sends.taken_is;
  whole = ap (λ (t : List ℕ). t ++ more) sends.whole ∙ append_assoc sends.sent rest more;
}

-- a part of it was held behind what was held before, and more is to come
pub sends_part : (text start taken taken' held part more rest : List ℕ) → SendsFront text start taken (held ++ (part ++ more)) → SendsFront (held ++ part) taken taken' rest → SendsFront text start taken' (rest ++ more)
sends_part text start taken taken' held part more rest first next =
    sends_on text start taken taken' (held ++ (part ++ more)) (rest ++ more) first
    (subst (λ (t : List ℕ). SendsFront t taken taken' (rest ++ more)) (append_assoc held part more) (sends_before (held ++ part) more taken taken' rest next))

-- ---- the lines of refused datagrams

pub one_word_more : (words : List RefusalWord) (word : RefusalWord) → flat_map word_text (words ++ word ∷ []) ≡ flat_map word_text words ++ word_text word
one_word_more words word = flat_map-append word_text words (word ∷ []) ∙ ap (λ (t : List ℕ). flat_map word_text words ++ t) (append-nil (word_text word))

-- one of them went on from what is held
pub sends_word : (words : List RefusalWord) (i : ℕ) (d : RefusalWord) (text start taken taken' held rest : List ℕ) → i < length words
    → SendsFront text start taken (held ++ flat_map word_text (drop i words)) → SendsFront (held ++ word_text (get_or words i d)) taken taken' rest
    → SendsFront text start taken' (rest ++ flat_map word_text (drop (i + 1) words))
sends_word words i d text start taken taken' held rest below first next =
    sends_part text start taken taken' held (word_text (get_or words i d)) (flat_map word_text (drop (i + 1) words)) rest
    (subst (λ (t : List ℕ). SendsFront text start taken (held ++ t)) (at_drop_more (flat_map word_text) words i d below) first) next

-- after the last one
pub sends_words : (words : List RefusalWord) (i : ℕ) (text start taken held : List ℕ) → length words ≤ i → SendsFront text start taken (held ++ flat_map word_text (drop i words)) → SendsFront text start taken held
sends_words words i text start taken held past sends =
    subst (SendsFront text start taken) (ap (λ (t : List ℕ). held ++ t) (at_drop_all (flat_map word_text) words i past) ∙ append-nil held) sends

-- ---- feed A's lines, then B's, then S's

module _ (held a b s start : List ℕ) where
  pub sends_a : {x : List ℕ} (taken rest : List ℕ) → x ≡ a → SendsFront (held ++ x) start taken rest → SendsFront (held ++ (a ++ (b ++ s))) start taken (rest ++ (b ++ s))
  sends_a {x} taken rest is_a first =
      let all = held ++ (a ++ (b ++ s)) in
      sends_part all start start taken held a (b ++ s) rest (sends_nothing all start) (subst (λ (t : List ℕ). SendsFront (held ++ t) start taken rest) is_a first)

  pub sends_b : {x y : List ℕ} (taken taken' left rest : List ℕ) → x ≡ a → y ≡ b → SendsFront (held ++ x) start taken left → SendsFront (left ++ y) taken taken' rest
      → SendsFront (held ++ (a ++ (b ++ s))) start taken' (rest ++ s)
  sends_b {x} {y} taken taken' left rest is_a is_b first second =
      sends_part (held ++ (a ++ (b ++ s))) start taken taken' left b s rest (sends_a taken left is_a first) (subst (λ (t : List ℕ). SendsFront (left ++ t) taken taken' rest) is_b second)

  pub sends_s : {x y z : List ℕ} (taken taken' end left left' rest : List ℕ) → x ≡ a → y ≡ b → z ≡ s → SendsFront (held ++ x) start taken left → SendsFront (left ++ y) taken taken' left'
      → SendsFront (left' ++ z) taken' end rest → SendsFront (held ++ (a ++ (b ++ s))) start end rest
  sends_s {x} {y} {z} taken taken' end left left' rest is_a is_b is_s first second third =
      sends_on (held ++ (a ++ (b ++ s))) start taken' end (left' ++ s) rest (sends_b taken taken' left left' is_a is_b first second)
      (subst (λ (t : List ℕ). SendsFront (left' ++ t) taken' end rest) is_s third)

-- ---- the end of the text

-- where nothing was held before
pub sends_lines : (before lines start taken rest : List ℕ) → before ≡ [] → SendsFront (before ++ lines) start taken rest → SendsFront lines start taken rest
sends_lines before lines start taken rest none sends = subst (λ (t : List ℕ). SendsFront (t ++ lines) start taken rest) none sends

-- the rest of it went out, and a text behind it
pub sends_rest : (lines last start taken taken' held : List ℕ) → SendsFront lines start taken held → taken' ≡ taken ++ (held ++ last) → taken' ≡ start ++ (lines ++ last)
sends_rest lines last start taken taken' held sends went =
    let all = sends_on (lines ++ last) start taken taken' (held ++ last) [] (sends_before lines last start taken held sends) (sends_all (held ++ last) taken taken' went) in
    all.taken_is ∙ ap (λ (t : List ℕ). start ++ t) (sym (all.whole ∙ append-nil all.sent))

-- so many bytes went out
front_of : (text start taken rest : List ℕ) → SendsFront text start taken rest → (n : ℕ) × (taken ≡ start ++ take n text)
front_of text start taken rest sends =
    (length sends.sent, sends.taken_is ∙ ap (λ (t : List ℕ). start ++ t) (sym (take-append_seam sends.sent rest) ∙ ap (take (length sends.sent)) (sym sends.whole)))

-- whatever was to come behind the lines
pub begins_end : (lines last start taken rest : List ℕ) → SendsFront lines start taken rest → (n : ℕ) × (taken ≡ start ++ take n (lines ++ last))
begins_end lines last start taken rest sends = front_of (lines ++ last) start taken (rest ++ last) (sends_before lines last start taken rest sends)

-- of the rest and the text behind it some bytes did
pub begins_rest : (lines last start taken taken' held : List ℕ) (n : ℕ) → SendsFront lines start taken held → taken' ≡ taken ++ take n (held ++ last) → (m : ℕ) × (taken' ≡ start ++ take m (lines ++ last))
begins_rest lines last start taken taken' held n sends went =
    front_of (lines ++ last) start taken' (drop n (held ++ last))
    (sends_on (lines ++ last) start taken taken' (held ++ last) (drop n (held ++ last)) (sends_before lines last start taken held sends) (sends_some (held ++ last) taken taken' n went))
