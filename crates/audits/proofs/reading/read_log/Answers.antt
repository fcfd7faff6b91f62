use Rattle.std.proofs.Common.{rules}
use Rattle.audits.specs.Audit.{verdict_of}
use Rattle.audits.specs.Text.{verdict_text}
use Rattle.audits.proofs.reading.read_log.Goals as goal

pub returns : goal.returns
returns c = c.read_lines.ensures (λ v. verdict_text (verdict_of v)) (λ h line v p. search rules)
