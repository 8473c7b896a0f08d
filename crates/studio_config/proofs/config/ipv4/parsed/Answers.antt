use Rattle.std.proofs.Common.{sym, ap, ◌∙◌}
use Rattle.studio_config.specs.Address.{address_of}
use Rattle.studio_config.proofs.AddressLemmas.{address_of-text, address_of-none}
use Rattle.studio_config.proofs.config.ipv4.parsed.Goals as goal

-- a text that was parsed as an address
pub returns-in-Ok : goal.returns-in-Ok
returns-in-Ok c = sym (address_of-text c.as_bytes.result.now c.in-Ok.address c.in-Ok.ensures) ∙ ap address_of c.as_bytes.ensures.value

-- a text that was refused
pub returns-in-Err : goal.returns-in-Err
returns-in-Err c = sym (address_of-none c.as_bytes.result.now c.in-Err.ensures) ∙ ap address_of c.as_bytes.ensures.value
