use Rattle.law_json.proofs.ReadSound.{read_is_sound}
use Rattle.law_json.proofs.read_is_sound.Goals as goal

pub returns : goal.returns
returns c = read_is_sound
