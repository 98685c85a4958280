-- What stands at the front of a text: one thing, whatever follows.
use Rattle.std.proofs.Common.{◌≡◌, ◌⊎◌, ℕ, ◌≤◌, ltb, List, ◌++◌, take, length, sym, ap, subst, ◌∙◌, arith, refl, inl, inr, Result, Ok, Err}
use Rattle.std.proofs.lemmas.Bool.{cases_lt, lt-ltb, le-ltb, cond-true, cond-false}
use Rattle.std.proofs.lemmas.List.{length-append, take-append-le}
use Rattle.mdp_pcap.specs.Block.{BlockContent, block_of}
use Rattle.mdp_pcap.specs.Extent.{needed}
use Rattle.mdp_pcap.specs.File.{Unfinished, Faulty, Whole, front_of, front_with, front_says}
use Rattle.mdp_pcap.specs.declared.layout.Interface.{Interface}
use Rattle.mdp_pcap.specs.declared.layout.Layout.{Layout}
use Rattle.mdp_pcap.specs.declared.layout.PcapFault.{PcapFault}
use Rattle.mdp_pcap.proofs.Needs.{needed_told, needed_least, same_ok}

-- a whole block of so many bytes stands at the front, and this is what it says, or why it can't be read
pub record SaysAt (layout : Layout) (interfaces : List Interface) (text : List ℕ) (count : ℕ) (says : Result BlockContent PcapFault) : Type 0 where
  pub needs : needed layout text ≡ Ok count
  pub fits : count ≤ length text
  pub is : block_of layout interfaces (take count text) ≡ says

pub front_from : (layout : Layout) (interfaces : List Interface) (text : List ℕ) (count : ℕ) (says : Result BlockContent PcapFault) → SaysAt layout interfaces text count says → front_of layout interfaces text ≡ front_says count says
front_from layout interfaces text count says at =
    ap (front_with layout interfaces text) at.needs
    ∙ cond-false (ltb (length text) count) (Unfinished count) (front_says count (block_of layout interfaces (take count text))) (le-ltb (length text) count at.fits)
    ∙ ap (front_says count) at.is

whole_parts : (count found : ℕ) (says : Result BlockContent PcapFault) (block : BlockContent) → front_says count says ≡ Whole found block → (count ≡ found) × (says ≡ Ok block)
whole_parts count found (Ok said) block e = (cc, cc)
whole_parts count found (Err fault) block e = cc

whole_at : (layout : Layout) (interfaces : List Interface) (text : List ℕ) (r : Result ℕ PcapFault) (found : ℕ) (block : BlockContent) → needed layout text ≡ r → front_with layout interfaces text r ≡ Whole found block → SaysAt layout interfaces text found (Ok block)
whole_at layout interfaces text (Err fault) found block is e = cc
whole_at layout interfaces text (Ok count) found block is e =
    elim (cases_lt (length text) count) [
      | inl short ↦
          let other : Unfinished count ≡ Whole found block = sym (cond-true (ltb (length text) count) (Unfinished count) (front_says count (block_of layout interfaces (take count text))) (lt-ltb (length text) count short)) ∙ e in cc
      | inr long ↦
          let says : front_says count (block_of layout interfaces (take count text)) ≡ Whole found block = sym (cond-false (ltb (length text) count) (Unfinished count) (front_says count (block_of layout interfaces (take count text))) (le-ltb (length text) count long)) ∙ e in
          let parts = whole_parts count found (block_of layout interfaces (take count text)) block says in
          subst (λ (n : ℕ). SaysAt layout interfaces text n (Ok block)) parts.0 (record { needs = is; fits = long; is = parts.1 })
    ]

pub whole_says : (layout : Layout) (interfaces : List Interface) (text : List ℕ) (count : ℕ) (block : BlockContent) → front_of layout interfaces text ≡ Whole count block → SaysAt layout interfaces text count (Ok block)
whole_says layout interfaces text count block e = whole_at layout interfaces text (needed layout text) count block refl e

-- why no block stands at the front: its length can't be told, or it is whole and can't be read
abbrev pub FaultyAt : Layout → List Interface → List ℕ → PcapFault → Type 0
FaultyAt layout interfaces text fault = (needed layout text ≡ Err fault) ⊎ ((count : ℕ) × SaysAt layout interfaces text count (Err fault))

faulty_parts : (count : ℕ) (says : Result BlockContent PcapFault) (fault : PcapFault) → front_says count says ≡ Faulty fault → says ≡ Err fault
faulty_parts count (Ok said) fault e = cc
faulty_parts count (Err other) fault e = cc

faulty_at : (layout : Layout) (interfaces : List Interface) (text : List ℕ) (r : Result ℕ PcapFault) (fault : PcapFault) → needed layout text ≡ r → front_with layout interfaces text r ≡ Faulty fault → FaultyAt layout interfaces text fault
faulty_at layout interfaces text (Err other) fault is e = let same : other ≡ fault = cc in inl (is ∙ ap Err same)
faulty_at layout interfaces text (Ok count) fault is e =
    elim (cases_lt (length text) count) [
      | inl short ↦
          let other : Unfinished count ≡ Faulty fault = sym (cond-true (ltb (length text) count) (Unfinished count) (front_says count (block_of layout interfaces (take count text))) (lt-ltb (length text) count short)) ∙ e in cc
      | inr long ↦
          let says : front_says count (block_of layout interfaces (take count text)) ≡ Faulty fault = sym (cond-false (ltb (length text) count) (Unfinished count) (front_says count (block_of layout interfaces (take count text))) (le-ltb (length text) count long)) ∙ e in
          inr (count, record { needs = is; fits = long; is = faulty_parts count (block_of layout interfaces (take count text)) fault says })
    ]

-- ---- whatever follows

-- what is told and there is so whatever follows
needs_more : (layout : Layout) (text more : List ℕ) (count : ℕ) → needed layout text ≡ Ok count → count ≤ length text → needed layout (text ++ more) ≡ Ok count
needs_more layout text more count is fits =
    elim (needed_told layout text more) [
      | inl short ↦ let equal = same_ok (needed layout text) short.0 count short.1.0 is in absurd (omega (arith, equal, short.1.1, fits))
      | inr same ↦ same ∙ is
    ]

says_more : (layout : Layout) (interfaces : List Interface) (text more : List ℕ) (count : ℕ) (says : Result BlockContent PcapFault) → SaysAt layout interfaces text count says → SaysAt layout interfaces (text ++ more) count says
says_more layout interfaces text more count says at =
    record {
      needs = needs_more layout text more count at.needs at.fits;
      fits = omega (arith, at.fits, length-append text more);
      is = ap (block_of layout interfaces) (take-append-le count text more at.fits) ∙ at.is;
    }

ok_not_err : (r : Result ℕ PcapFault) (n : ℕ) (fault : PcapFault) → r ≡ Ok n → r ≡ Err fault → ⊥
ok_not_err r n fault p q = cc

pub whole_more : (layout : Layout) (interfaces : List Interface) (text more : List ℕ) (count : ℕ) (block : BlockContent) → front_of layout interfaces text ≡ Whole count block → front_of layout interfaces (text ++ more) ≡ Whole count block
whole_more layout interfaces text more count block e =
    front_from layout interfaces (text ++ more) count (Ok block) (says_more layout interfaces text more count (Ok block) (whole_says layout interfaces text count block e))

pub faulty_more : (layout : Layout) (interfaces : List Interface) (text more : List ℕ) (fault : PcapFault) → front_of layout interfaces text ≡ Faulty fault → front_of layout interfaces (text ++ more) ≡ Faulty fault
faulty_more layout interfaces text more fault e =
    elim (faulty_at layout interfaces text (needed layout text) fault refl e) [
      | inl untold ↦ elim (needed_told layout text more) [
        | inl short ↦ absurd (ok_not_err (needed layout text) short.0 fault short.1.0 untold)
        | inr same ↦ ap (front_with layout interfaces (text ++ more)) (same ∙ untold)
      ]
      | inr at ↦ front_from layout interfaces (text ++ more) at.0 (Err fault) (says_more layout interfaces text more at.0 (Err fault) at.1)
    ]

-- a whole block has some bytes, which are there
pub whole_least : (layout : Layout) (interfaces : List Interface) (text : List ℕ) (count : ℕ) (block : BlockContent) → front_of layout interfaces text ≡ Whole count block → (12 ≤ count) × (count ≤ length text)
whole_least layout interfaces text count block e =
    let at = whole_says layout interfaces text count block e in
    (needed_least layout text count at.needs at.fits, at.fits)
