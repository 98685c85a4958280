use Rattle.std.proofs.Common.{◌≡◌, ℕ, List, [], ◌∷◌, sym, ap, ◌∙◌}
use Rattle.mdp_channel.specs.Address.{address_of_fields, parts}
use Rattle.mdp_channel.proofs.Parting.{address_of_left, address_of_no_port, none_left}
use Rattle.mdp_channel.proofs.address.address_of.Goals as goal

-- the first four fields of a line
four : (line letter feed group port : List ℕ) (second third fourth fields : List (List ℕ)) → parts 32 line ≡ letter ∷ second → second ≡ feed ∷ third → third ≡ group ∷ fourth → fourth ≡ port ∷ fields
    → parts 32 line ≡ letter ∷ feed ∷ group ∷ port ∷ fields
four line letter feed group port second third fourth fields one two three last =
    one ∙ ap (λ (p : List (List ℕ)). letter ∷ p) (two ∙ ap (λ (p : List (List ℕ)). feed ∷ p) (three ∙ ap (λ (p : List (List ℕ)). group ∷ p) last))

pub returns-then-is_some : goal.returns-then-is_some
returns-then-is_some c =
    let letter = c.cut_at.result.0.now in
    let feed = c.cut_at-2.result.0.now in
    let group = c.cut_at-3.result.0.now in
    let port = c.cut_at-4.result.0.now in
    let rest = c.cut_at-4.result.1 in
    let all = four c.args.line.now letter feed group port _ _ _ _ (rw c.in_ok-rest.was at c.cut_at.ensures) (rw c.in_ok-rest-2.was at c.cut_at-2.ensures) (rw c.in_ok-rest-3.was at c.cut_at-3.ensures) c.cut_at-4.ensures in
    sym (ap address_of_fields all ∙ address_of_left letter feed group port rest (sym c.is_some.ensures ∙ c.if-is_some.true))

pub returns-in_err-port : goal.returns-in_err-port
returns-in_err-port c =
    let letter = c.cut_at.result.0.now in
    let feed = c.cut_at-2.result.0.now in
    let group = c.cut_at-3.result.0.now in
    let port = c.cut_at-4.result.0.now in
    let rest = c.cut_at-4.result.1 in
    let last = c.cut_at-4.ensures ∙ ap (λ (p : List (List ℕ)). port ∷ p) (none_left 32 rest (sym c.is_some.ensures ∙ c.if-is_some.false)) in
    let all = four c.args.line.now letter feed group port _ _ _ [] (rw c.in_ok-rest.was at c.cut_at.ensures) (rw c.in_ok-rest-2.was at c.cut_at-2.ensures) (rw c.in_ok-rest-3.was at c.cut_at-3.ensures) last in
    c.from_residual-in_err-port.ensures ∙ sym (ap address_of_fields all ∙ address_of_no_port letter feed group port (sym c.port_of.ensures ∙ c.in_err-port.was))
