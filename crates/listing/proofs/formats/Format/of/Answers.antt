use mathlib.Core.Path.{◌∙◌}
use Rattle.listing.specs.Forms.{spell, bytes}
use Rattle.listing.proofs.FormatTable.{marked, unmarked}
use Rattle.listing.proofs.Scans.{begins_is}
use Rattle.listing.proofs.formats.Format.of.Goals as goal

pub returns-then-starts_with : goal.returns-then-starts_with
unfolding bytes spell
returns-then-starts_with c = marked c.args.text.now _ (c.starts_with.ensures.value ∙ begins_is _ c.args.text.now) c.if-starts_with.true

pub returns : goal.returns
unfolding bytes spell
returns c = unmarked c.args.text.now _ (c.starts_with.ensures.value ∙ begins_is _ c.args.text.now) c.if-starts_with.false
