use Rattle.devices.specs.Devices.{most_read}
use Rattle.devices.proofs.text.read_text.Goals as goal

pub returns-clause-text : goal.returns-clause-text
unfolding most_read
returns-clause-text g c = c.read_text_of.ensures.text

pub returns-clause-rest : goal.returns-clause-rest
unfolding most_read
returns-clause-rest g c = c.read_text_of.ensures.rest

pub returns-clause-bound : goal.returns-clause-bound
unfolding most_read
returns-clause-bound g c = c.read_text_of.ensures.bound
