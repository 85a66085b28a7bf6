use Rattle.folder_system.proofs.system_disk.SystemDisk.made_sure.Goals as goal

pub invariant_of-result-clause-sure : goal.invariant_of-result-clause-sure
invariant_of-result-clause-sure g c told sound = (c.requires.good told).sure

pub invariant_of-result-clause-plain : goal.invariant_of-result-clause-plain
invariant_of-result-clause-plain g c told may = (c.requires.good told).plain

pub invariant_of-result-clause-there : goal.invariant_of-result-clause-there
invariant_of-result-clause-there g c told settled = (c.requires.pinned told).there

pub invariant_of-result-clause-alone : goal.invariant_of-result-clause-alone
invariant_of-result-clause-alone g c told settled = (c.requires.pinned told).alone
