-- `receiver::start` meets its contract: the settings are refused, or the receiver is empty.
use Rattle.std.proofs.Common.{sym, ap₂, ◌∙◌}
use Rattle.std.specs.Prelude.{⊤, Result}
use Rattle.refusal.specs.Laws.First.{number-positive, refused, accepted, kept, done}
use Rattle.refusal.specs.declared.Refusal.{Refusal}
use Rattle.receiver.specs.Receiver.{start_of}
use Rattle.receiver.specs.declared.Receiver.{Receiver}
use Rattle.receiver.specs.declared.Started.{Started}
use Rattle.receiver.proofs.start.Goals as goal

-- what Start hands back, by its two fields
started : Receiver → Result ⊤ Refusal → Started
started r a = record { receiver = r; answer = a }

pub returns-in-Ok-clause-value : goal.returns-in-Ok-clause-value
unfolding start_of started
returns-in-Ok-clause-value c =
    let settled = sym c.in-Ok.ensures in
    ap₂ started (c.empty.ensures ∙ done _ _ _ settled) (accepted _ _ settled)

pub returns-in-Err-clause-value : goal.returns-in-Err-clause-value
unfolding start_of started
returns-in-Err-clause-value c =
    let told = c.in-Err.ensures in
    ap₂ started (c.empty-in-Err.ensures ∙ kept _ _ _ (λ z. number-positive _ (told ∙ z))) (refused _ _ _ told)
