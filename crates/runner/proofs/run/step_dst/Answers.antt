use Rattle.runner.proofs.Steps.{load_met, store_met}
use Rattle.runner.proofs.run.step_dst.Goals as goal

pub returns-then-i-eq-LOAD : goal.returns-then-i-eq-LOAD
returns-then-i-eq-LOAD c = λ owed. load_met _ _ _ _ _ _ _ owed _ _ c.if-i-eq-LOAD.true c.told-dst c.requires.enabled c.load.ensures.0 c.load.ensures.1

pub returns : goal.returns
returns c = λ owed. store_met _ _ _ _ _ _ _ owed _ c.requires.meets c.if-i-eq-LOAD.false c.told-image c.requires.enabled c.requires.stores.eight c.store.ensures
