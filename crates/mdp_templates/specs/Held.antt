-- The places of a packet's messages in memory, as definitions see them.
use Rattle.std.specs.Prelude.{List}
use Rattle.mdp_templates.specs.declared.spans.Span.{Span}
use Rattle.mdp_templates.specs.declared.spans.Held.{Held}
use Rattle.mdp_templates.specs.declared.spans.Held.TheVariants as held

-- the places, wherever they lie
abbrev pub spans_of : {A : Type 0} → Held A → List Span
spans_of (held.Few spans) = spans.items
spans_of (held.Many spans) = spans.items
